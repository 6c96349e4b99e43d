-- Moments: those that a text may have, and their one spelling.
use Rattle.std.proofs.Common.{◌≡◌, ℕ, ◌+◌, ◌*◌, ◌/◌, ◌%◌, ◌<◌, ◌≤◌, Bool, true, ◌&&◌, nat_le, List, [], ◌∷◌, ◌++◌, take, drop, ℤ, pos, ◌+ℤ◌, ◌*ℤ◌, unsigned_abs, Option, Some, Result, Ok, Err, IfOk, refl, sym, ap, ◌∙◌, subst, arith}
use Rattle.std.specs.Prelude.{codes}
use Rattle.std.specs.Int.{int_div_euclid, int_rem_euclid}
use Rattle.std.specs.Result.{result_ok}
use Rattle.std.proofs.lemmas.Bool.{and_from, and_parts, le-leb, leb-true}
use Rattle.jiff_core.specs.Calendar.{days_from_civil}
use Rattle.jiff_core.proofs.CalendarLemmas.{days_in_month_bounds}
use Rattle.jiff_core.proofs.SignedLemmas.{signed_arith}
use Rattle.field_text.specs.Grammars.{is_civil, is_shaped, moment, number, some_if}
use Rattle.field_text.specs.Laws.{MomentsHaveOneSpelling}
use Rattle.field_text.specs.Texts.{IsPrintableMoment, day_of_month, last_digits, moment_text, month_of, year_of}
use Rattle.field_text.proofs.CivilLemmas.{day_of_month-civil, month_of-civil, year_of-civil}
use Rattle.field_text.proofs.DateLemmas.{IsCivilIn, civil_bounds, civil_from_test, test_from_civil}
use Rattle.field_text.proofs.NumberLemmas.{some_if-passed, some_if-passes}
use Rattle.field_text.proofs.OnLiterals.{field_text_on_literals}
use Rattle.field_text.proofs.ShapeLemmas.{digits_at, is_shaped-last_digits, mark_at}
use Rattle.field_text.proofs.SpellingLemmas.{number-last_digits}

-- a time of the day
pub record IsClock (hours minutes seconds : ℕ) : Type 0 where
  pub hours_in : hours ≤ 23
  pub minutes_in : minutes ≤ 59
  pub seconds_in : seconds ≤ 59

-- the moment of a date and a time of the day
abbrev pub moment_at : ℕ → ℕ → ℕ → ℕ → ℕ → ℕ → ℤ
moment_at year month day hours minutes seconds =
    (pos 86400 *ℤ days_from_civil (pos year) month day) +ℤ pos (3600 * hours + 60 * minutes + seconds)

-- its text
abbrev pub text_at : ℕ → ℕ → ℕ → ℕ → ℕ → ℕ → List ℕ
text_at year month day hours minutes seconds =
    last_digits 4 year ++ (45 ∷ (last_digits 2 month ++ (45 ∷ (last_digits 2 day ++ (84 ∷ (last_digits 2 hours ++ (58 ∷ (last_digits 2 minutes ++ (58 ∷ (last_digits 2 seconds ++ 90 ∷ []))))))))))

-- the parts that a text shows
pub record HasMoment (first last : ℕ) (text : List ℕ) (m : ℤ) : Type 0 where
  pub year : ℕ
  pub month : ℕ
  pub day : ℕ
  pub hours : ℕ
  pub minutes : ℕ
  pub seconds : ℕ
  pub civil : IsCivilIn first last year month day
  pub clock : IsClock hours minutes seconds
  pub is : m ≡ moment_at year month day hours minutes seconds
  pub spelled : text ≡ text_at year month day hours minutes seconds

past_seconds : (text : List ℕ) → is_shaped [] text ≡ true → text ≡ []
unfolding is_shaped
past_seconds [] h = refl
past_seconds (b ∷ text) h = absurd (cc)

spelled : (text : List ℕ) → is_shaped (codes "0000-00-00T00:00:00Z") text ≡ true
    → text ≡ text_at (number (take 4 text)) (number (take 2 (drop 5 text))) (number (take 2 (drop 8 text))) (number (take 2 (drop 11 text))) (number (take 2 (drop 14 text))) (number (take 2 (drop 17 text)))
spelled text h =
    let y = digits_at 0 4 (codes "-00-00T00:00:00Z") text h in
    let a = mark_at 4 45 (codes "00-00T00:00:00Z") text refl y.1 in
    let m = digits_at 5 2 (codes "-00T00:00:00Z") text a.1 in
    let b = mark_at 7 45 (codes "00T00:00:00Z") text refl m.1 in
    let d = digits_at 8 2 (codes "T00:00:00Z") text b.1 in
    let t = mark_at 10 84 (codes "00:00:00Z") text refl d.1 in
    let hours = digits_at 11 2 (codes ":00:00Z") text t.1 in
    let u = mark_at 13 58 (codes "00:00Z") text refl hours.1 in
    let minutes = digits_at 14 2 (codes ":00Z") text u.1 in
    let v = mark_at 16 58 (codes "00Z") text refl minutes.1 in
    let seconds = digits_at 17 2 (codes "Z") text v.1 in
    let z = mark_at 19 90 [] text refl seconds.1 in
    let end = past_seconds (drop 20 text) z.1 in
    let Y = last_digits 4 (number (take 4 text)) in
    let M = last_digits 2 (number (take 2 (drop 5 text))) in
    let D = last_digits 2 (number (take 2 (drop 8 text))) in
    let H = last_digits 2 (number (take 2 (drop 11 text))) in
    let N = last_digits 2 (number (take 2 (drop 14 text))) in
    let S = last_digits 2 (number (take 2 (drop 17 text))) in
    y.0 ∙ ap (λ xs. Y ++ xs) (a.0 ∙ ap (λ xs. 45 ∷ xs) (m.0 ∙ ap (λ xs. M ++ xs) (b.0 ∙ ap (λ xs. 45 ∷ xs) (d.0 ∙ ap (λ xs. D ++ xs) (t.0 ∙ ap (λ xs. 84 ∷ xs)
    (hours.0 ∙ ap (λ xs. H ++ xs) (u.0 ∙ ap (λ xs. 58 ∷ xs) (minutes.0 ∙ ap (λ xs. N ++ xs) (v.0 ∙ ap (λ xs. 58 ∷ xs) (seconds.0 ∙ ap (λ xs. S ++ xs) (z.0 ∙ ap (λ xs. 90 ∷ xs) end)))))))))))

pub parts_of_moment : (first last : ℕ) (text : List ℕ) (m : ℤ) → last ≤ 9999 → moment first last text ≡ Some m → HasMoment first last text m
parts_of_moment first last text m small is =
    let read = some_if-passed _ _ _ (sym is) in
    let e = and_parts _ _ read.0 in
    let d = and_parts _ _ e.0 in
    let c = and_parts _ _ d.0 in
    let b = and_parts _ _ c.0 in
    record {
      year = number (take 4 text);
      month = number (take 2 (drop 5 text));
      day = number (take 2 (drop 8 text));
      hours = number (take 2 (drop 11 text));
      minutes = number (take 2 (drop 14 text));
      seconds = number (take 2 (drop 17 text));
      civil = civil_from_test first last _ _ _ small b.1;
      clock = record { hours_in = leb-true _ _ c.1; minutes_in = leb-true _ _ d.1; seconds_in = leb-true _ _ e.1 };
      is = read.1;
      spelled = spelled text b.0;
    }

-- the day and the second of the day that a moment has
day_and_second : (day m : ℤ) (second : ℕ) → second < 86400 → m ≡ (pos 86400 *ℤ day) +ℤ pos second
    → (int_div_euclid m (pos 86400) ≡ day) × (unsigned_abs (int_rem_euclid m (pos 86400)) ≡ second)
day_and_second day m second small is = (omega (arith, signed_arith), omega (arith, signed_arith))

abbrev shown : ℤ → ℕ → List ℕ
shown day second = text_at (year_of day) (month_of day) (day_of_month day) (second / 3600) (second / 60 % 60) (second % 60)

moment_text-shown : (m : ℤ) → moment_text m ≡ shown (int_div_euclid m (pos 86400)) (unsigned_abs (int_rem_euclid m (pos 86400)))
unfolding moment_text
moment_text-shown m = refl

pub moment_text-at : (year month day hours minutes seconds : ℕ) → IsCivilIn 1 9999 year month day → IsClock hours minutes seconds
    → moment_text (moment_at year month day hours minutes seconds) ≡ text_at year month day hours minutes seconds
moment_text-at year month day hours minutes seconds h clock =
    let number = days_from_civil (pos year) month day in
    let second = 3600 * hours + 60 * minutes + seconds in
    let m = moment_at year month day hours minutes seconds in
    let parts = day_and_second number m second (omega (arith, clock.hours_in, clock.minutes_in, clock.seconds_in)) refl in
    let on_hour : second / 3600 ≡ hours = omega (arith, clock.hours_in, clock.minutes_in, clock.seconds_in) in
    let on_minute : second / 60 % 60 ≡ minutes = omega (arith, clock.hours_in, clock.minutes_in, clock.seconds_in) in
    let on_second : second % 60 ≡ seconds = omega (arith, clock.hours_in, clock.minutes_in, clock.seconds_in) in
    moment_text-shown m
    ∙ ap (λ d. shown d (unsigned_abs (int_rem_euclid m (pos 86400)))) parts.0
    ∙ ap (shown number) parts.1
    ∙ ap (λ y. text_at y (month_of number) (day_of_month number) (second / 3600) (second / 60 % 60) (second % 60)) (year_of-civil year month day h.civil h.low h.high)
    ∙ ap (λ n. text_at year n (day_of_month number) (second / 3600) (second / 60 % 60) (second % 60)) (month_of-civil year month day h.civil h.low h.high)
    ∙ ap (λ d. text_at year month d (second / 3600) (second / 60 % 60) (second % 60)) (day_of_month-civil year month day h.civil h.low h.high)
    ∙ ap (λ n. text_at year month day n (second / 60 % 60) (second % 60)) on_hour
    ∙ ap (λ n. text_at year month day hours n (second % 60)) on_minute
    ∙ ap (λ n. text_at year month day hours minutes n) on_second

pub first_of_1980 : days_from_civil (pos 1980) 1 1 ≡ pos 3652
unfolding field_text_on_literals
first_of_1980 = refl

pub first_of_2210 : days_from_civil (pos 2210) 1 1 ≡ pos 87658
unfolding field_text_on_literals
first_of_2210 = refl

printable_at : (year month day hours minutes seconds : ℕ) → IsCivilIn 1980 2209 year month day → IsClock hours minutes seconds
    → IsPrintableMoment (moment_at year month day hours minutes seconds)
printable_at year month day hours minutes seconds h clock =
    let bounds = civil_bounds 1980 2209 year month day (omega arith) h in
    let low = rw first_of_1980 at bounds.0 in
    let high = rw first_of_2210 at bounds.1 in
    record { low = omega (arith, signed_arith); high = omega (arith, signed_arith, clock.hours_in, clock.minutes_in, clock.seconds_in) }

pub wider : (first last year month day : ℕ) → 1 ≤ first → last ≤ 9999 → IsCivilIn first last year month day → IsCivilIn 1 9999 year month day
wider first last year month day low high h = record { civil = h.civil; low = omega (arith, h.low); high = omega (arith, h.high) }

pub moments_have_one_spelling : MomentsHaveOneSpelling
moments_have_one_spelling text m is =
    let p = parts_of_moment 1980 2209 text m (omega arith) is in (
      subst IsPrintableMoment (sym p.is) (printable_at p.year p.month p.day p.hours p.minutes p.seconds p.civil p.clock),
      p.spelled ∙ sym (ap moment_text p.is ∙ moment_text-at p.year p.month p.day p.hours p.minutes p.seconds (wider 1980 2209 p.year p.month p.day (omega arith) (omega arith) p.civil) p.clock),
    )

-- what is read is such a moment
pub printable_if_read : {E : Type 0} (text : List ℕ) (r : Result ℤ E) → result_ok r ≡ moment 1980 2209 text → IfOk r (λ m. IsPrintableMoment m)
printable_if_read text (Ok m) e = (moments_have_one_spelling text m (sym e)).0
printable_if_read text (Err error) e = tt

text_is_shaped : (year month day hours minutes seconds : ℕ) → is_shaped (codes "0000-00-00T00:00:00Z") (text_at year month day hours minutes seconds) ≡ true
unfolding is_shaped
text_is_shaped year month day hours minutes seconds =
    let s = last_digits 2 seconds ++ 90 ∷ [] in
    let n = last_digits 2 minutes ++ (58 ∷ s) in
    let h = last_digits 2 hours ++ (58 ∷ n) in
    let d = last_digits 2 day ++ (84 ∷ h) in
    let m = last_digits 2 month ++ (45 ∷ d) in
    is_shaped-last_digits 4 year (codes "-00-00T00:00:00Z") (45 ∷ m)
    ∙ is_shaped-last_digits 2 month (codes "-00T00:00:00Z") (45 ∷ d)
    ∙ is_shaped-last_digits 2 day (codes "T00:00:00Z") (84 ∷ h)
    ∙ is_shaped-last_digits 2 hours (codes ":00:00Z") (58 ∷ n)
    ∙ is_shaped-last_digits 2 minutes (codes ":00Z") (58 ∷ s)
    ∙ is_shaped-last_digits 2 seconds (codes "Z") (90 ∷ [])

-- what the parts of a text are read as
abbrev pub read_at : ℕ → ℕ → Bool → ℕ → ℕ → ℕ → ℕ → ℕ → ℕ → Option ℤ
read_at first last shaped year month day hours minutes seconds =
    some_if (shaped && is_civil first last year month day && nat_le hours 23 && nat_le minutes 59 && nat_le seconds 59) (moment_at year month day hours minutes seconds)

pub moment-text_at : (first last year month day hours minutes seconds : ℕ) → IsCivilIn 1 9999 year month day → IsClock hours minutes seconds
    → moment first last (text_at year month day hours minutes seconds) ≡ read_at first last true year month day hours minutes seconds
moment-text_at first last year month day hours minutes seconds civil clock =
    let t = is_shaped (codes "0000-00-00T00:00:00Z") (text_at year month day hours minutes seconds) in
    let m = number (last_digits 2 month) in
    let d = number (last_digits 2 day) in
    let h = number (last_digits 2 hours) in
    let n = number (last_digits 2 minutes) in
    let s = number (last_digits 2 seconds) in
    ap (λ y. read_at first last t y m d h n s) (number-last_digits 4 year (omega (arith, civil.high)))
    ∙ ap (λ x. read_at first last t year x d h n s) (number-last_digits 2 month (omega (arith, civil.civil.1)))
    ∙ ap (λ x. read_at first last t year month x h n s) (number-last_digits 2 day (omega (arith, civil.civil.2, days_in_month_bounds (pos year) month)))
    ∙ ap (λ x. read_at first last t year month day x n s) (number-last_digits 2 hours (omega (arith, clock.hours_in)))
    ∙ ap (λ x. read_at first last t year month day hours x s) (number-last_digits 2 minutes (omega (arith, clock.minutes_in)))
    ∙ ap (λ x. read_at first last t year month day hours minutes x) (number-last_digits 2 seconds (omega (arith, clock.seconds_in)))
    ∙ ap (λ b. read_at first last b year month day hours minutes seconds) (text_is_shaped year month day hours minutes seconds)

pub read_at-passes : (first last year month day hours minutes seconds : ℕ) → IsCivilIn first last year month day → IsClock hours minutes seconds
    → read_at first last true year month day hours minutes seconds ≡ Some (moment_at year month day hours minutes seconds)
read_at-passes first last year month day hours minutes seconds civil clock =
    sym (some_if-passes _ _ _
    (and_from _ _ (and_from _ _ (and_from _ _ (test_from_civil first last year month day civil) (le-leb hours 23 clock.hours_in)) (le-leb minutes 59 clock.minutes_in)) (le-leb seconds 59 clock.seconds_in)) refl)
