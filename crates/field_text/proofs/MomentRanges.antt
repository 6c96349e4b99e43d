-- Moments of a range of years: they are read back, and a narrower range is a test of the number.
use Rattle.std.proofs.Common.{◌≡◌, ℕ, suc, ◌+◌, ◌*◌, ◌/◌, ◌%◌, ◌<◌, ◌≤◌, true, false, ◌&&◌, leb, nat_le, List, ℤ, pos, ◌+ℤ◌, ◌*ℤ◌, ◌<ℤ◌, ◌≤ℤ◌, int_le, unsigned_abs, Option, Some, None, refl, sym, ap, ◌∙◌, subst, inl, inr, arith}
use Rattle.std.specs.Int.{int_div_euclid, int_rem_euclid}
use Rattle.std.proofs.lemmas.Bool.{and_from, and_parts, both_ways, cases_Bool, leb-false, leb-true}
use Rattle.jiff_core.specs.Calendar.{days_from_civil}
use Rattle.jiff_core.proofs.SignedLemmas.{signed_arith}
use Rattle.field_text.specs.Grammars.{is_civil, moment, some_if}
use Rattle.field_text.specs.Laws.{MomentsAreReadBack}
use Rattle.field_text.specs.Texts.{IsPrintableDay, IsPrintableMoment, moment_text}
use Rattle.field_text.proofs.CivilDays.{CivilOf, civil_of}
use Rattle.field_text.proofs.CivilLemmas.{year_begun}
use Rattle.field_text.proofs.DateLemmas.{IsCivilIn, civil_bounds, civil_from_test, test_from_civil}
use Rattle.field_text.proofs.MomentSpelling.{IsClock, first_of_1980, first_of_2210, moment-text_at, moment_at, moment_text-at, parts_of_moment, read_at, read_at-passes, wider}
use Rattle.field_text.proofs.OnLiterals.{field_text_on_literals}
use borrow.Author.Differences.{le-false, le-true}

int_le-from : (a b : ℤ) → a ≤ℤ b → int_le a b ≡ true
int_le-from a b h =
    elim (cases_Bool (int_le a b)) [ inl t ↦ t | inr f ↦ absurd (omega (arith, signed_arith, le-false a b f)) ]

-- a date between the first days of two years is of the years between
civil_between : (first last year month day : ℕ) → first ≤ 9999 → last < 9999 → IsCivilIn 1 9999 year month day
    → days_from_civil (pos first) 1 1 ≤ℤ days_from_civil (pos year) month day → days_from_civil (pos year) month day <ℤ days_from_civil (pos (suc last)) 1 1
    → IsCivilIn first last year month day
civil_between first last year month day small less h low high =
    let d = days_from_civil (pos year) month day in
    let from : leb first year ≡ true = sym (year_begun first year month day h.civil small) ∙ int_le-from (days_from_civil (pos first) 1 1) d low in
    let next = year_begun (suc last) year month day h.civil less in
    let to : leb (suc last) year ≡ false = sym next ∙ elim (cases_Bool (int_le (days_from_civil (pos (suc last)) 1 1) d)) [
      | inl t ↦ absurd (omega (arith, signed_arith, le-true (days_from_civil (pos (suc last)) 1 1) d t))
      | inr f ↦ f
    ] in
    record { civil = h.civil; low = leb-true first year from; high = omega (arith, leb-false (suc last) year to) }

-- the time of a second of the day
clock_of : (second : ℕ) → second < 86400 → IsClock (second / 3600) (second / 60 % 60) (second % 60)
clock_of second small = record { hours_in = omega arith; minutes_in = omega arith; seconds_in = omega arith }

-- a moment of a date and a second of the day is read back
read_back_at : (first last : ℕ) (year month day second : ℕ) → 1 ≤ first → last ≤ 9999 → IsCivilIn first last year month day → second < 86400
    → let m = (pos 86400 *ℤ days_from_civil (pos year) month day) +ℤ pos second in moment first last (moment_text m) ≡ Some m
read_back_at first last year month day second low high civil small =
    let h = second / 3600 in
    let n = second / 60 % 60 in
    let s = second % 60 in
    let on = days_from_civil (pos year) month day in
    let clock = clock_of second small in
    let wide = wider first last year month day low high civil in
    let same : 3600 * h + 60 * n + s ≡ second = omega arith in
    subst (λ k. moment first last (moment_text ((pos 86400 *ℤ on) +ℤ pos k)) ≡ Some ((pos 86400 *ℤ on) +ℤ pos k)) same
    (ap (moment first last) (moment_text-at year month day h n s wide clock)
    ∙ moment-text_at first last year month day h n s wide clock
    ∙ read_at-passes first last year month day h n s civil clock)

-- the day and the second of the day of a moment
record HasDay (m day : ℤ) (second : ℕ) : Type 0 where
  sum : (pos 86400 *ℤ day) +ℤ pos second ≡ m
  small : second < 86400
  low : pos 3652 ≤ℤ day
  high : day <ℤ pos 87658

day_of_moment : (m : ℤ) → IsPrintableMoment m → HasDay m (int_div_euclid m (pos 86400)) (unsigned_abs (int_rem_euclid m (pos 86400)))
day_of_moment m h = record {
  sum = omega (arith, signed_arith);
  small = omega (arith, signed_arith);
  low = omega (arith, signed_arith, h.low);
  high = omega (arith, signed_arith, h.high);
}

read_back_from : (m day : ℤ) (second : ℕ) → HasDay m day second → CivilOf day → moment 1980 2209 (moment_text m) ≡ Some m
read_back_from m day second h c =
    let civil = civil_between 1980 2209 c.year c.month c.day (omega arith) (omega arith) c.civil
    (omega (arith, signed_arith, h.low, c.same, first_of_1980)) (omega (arith, signed_arith, h.high, c.same, first_of_2210)) in
    let back = read_back_at 1980 2209 c.year c.month c.day second (omega arith) (omega arith) civil h.small in
    let sum = ap (λ d. (pos 86400 *ℤ d) +ℤ pos second) c.same ∙ h.sum in
    subst (λ n. moment 1980 2209 (moment_text n) ≡ Some n) sum back

printable_day : (m day : ℤ) (second : ℕ) → HasDay m day second → IsPrintableDay day
printable_day m day second h = record { low = omega (arith, signed_arith, h.low); high = omega (arith, signed_arith, h.high) }

pub moments_are_read_back : MomentsAreReadBack
moments_are_read_back m h =
    let split = day_of_moment m h in
    read_back_from m _ _ split (civil_of _ (printable_day m _ _ split))

-- The years from the first to the last have just the moments from low to high.
record AreYears (first last : ℕ) (low high : ℤ) : Type 0 where
  some : 1 ≤ first
  below : first ≤ last
  small : last < 9999
  from : low ≡ pos 86400 *ℤ days_from_civil (pos first) 1 1
  to : high +ℤ pos 1 ≡ pos 86400 *ℤ days_from_civil (pos (suc last)) 1 1

-- the moment of a day and a second lies there just where the day is of these years
within_years : (first last : ℕ) (low high : ℤ) (year month day second : ℕ) → AreYears first last low high → IsCivilIn 1 9999 year month day → second < 86400
    → low ≤ℤ ((pos 86400 *ℤ days_from_civil (pos year) month day) +ℤ pos second) → ((pos 86400 *ℤ days_from_civil (pos year) month day) +ℤ pos second) ≤ℤ high
    → IsCivilIn first last year month day
within_years first last low high year month day second years civil small after before =
    civil_between first last year month day (omega (arith, years.below, years.small)) years.small civil
    (omega (arith, signed_arith, years.from)) (omega (arith, signed_arith, years.to))

lies_within : (first last : ℕ) (low high : ℤ) (year month day second : ℕ) → AreYears first last low high → IsCivilIn first last year month day → second < 86400
    → let m = (pos 86400 *ℤ days_from_civil (pos year) month day) +ℤ pos second in (low ≤ℤ m) × (m ≤ℤ high)
lies_within first last low high year month day second years civil small =
    let bounds = civil_bounds first last year month day (omega (arith, years.small)) civil in
    (omega (arith, signed_arith, years.from, bounds), omega (arith, signed_arith, years.to, bounds))

not_read_at : (first last year month day hours minutes seconds : ℕ) → is_civil first last year month day ≡ false
    → read_at first last true year month day hours minutes seconds ≡ None
not_read_at first last year month day hours minutes seconds other =
    ap (λ b. some_if (b && nat_le hours 23 && nat_le minutes 59 && nat_le seconds 59) (moment_at year month day hours minutes seconds)) other

narrowed_at : (first last : ℕ) (low high : ℤ) (year month day hours minutes seconds : ℕ) → AreYears first last low high → IsCivilIn 1 9999 year month day → IsClock hours minutes seconds
    → let m = moment_at year month day hours minutes seconds in read_at first last true year month day hours minutes seconds ≡ some_if (int_le low m && int_le m high) m
narrowed_at first last low high year month day hours minutes seconds years civil clock =
    let m = moment_at year month day hours minutes seconds in
    let second = 3600 * hours + 60 * minutes + seconds in
    let small : second < 86400 = omega (arith, clock.hours_in, clock.minutes_in, clock.seconds_in) in
    elim (cases_Bool (is_civil first last year month day)) [
      | inl civil_in ↦
          let within = civil_from_test first last year month day (omega (arith, years.small)) civil_in in
          let lies = lies_within first last low high year month day second years within small in
          read_at-passes first last year month day hours minutes seconds within clock
          ∙ ap (λ b. some_if b m) (sym (and_from _ _ (int_le-from low m lies.0) (int_le-from m high lies.1)))
      | inr other ↦
          not_read_at first last year month day hours minutes seconds other
          ∙ elim (cases_Bool (int_le low m && int_le m high)) [
            | inl lies ↦
                let parts = and_parts (int_le low m) (int_le m high) lies in
                let within = within_years first last low high year month day second years civil small (omega (arith, signed_arith, le-true low m parts.0)) (omega (arith, signed_arith, le-true m high parts.1)) in
                absurd (both_ways (is_civil first last year month day) other (test_from_civil first last year month day within))
            | inr out ↦ ap (λ b. some_if b m) (sym out)
          ]
    ]

-- what is read as a moment of the years 1980 to 2209 is one of these years just where its number lies between
narrowed : (first last : ℕ) (low high : ℤ) → AreYears first last low high → (text : List ℕ) (m : ℤ) → moment 1980 2209 text ≡ Some m
    → moment first last text ≡ some_if (int_le low m && int_le m high) m
narrowed first last low high years text m is =
    let p = parts_of_moment 1980 2209 text m (omega arith) is in
    let wide = wider 1980 2209 p.year p.month p.day (omega arith) (omega arith) p.civil in
    ap (moment first last) p.spelled
    ∙ moment-text_at first last p.year p.month p.day p.hours p.minutes p.seconds wide p.clock
    ∙ narrowed_at first last low high p.year p.month p.day p.hours p.minutes p.seconds years wide p.clock
    ∙ ap (λ n. some_if (int_le low n && int_le n high) n) (sym p.is)

none_is_not_some : {X : Type 0} (x : X) → None ≡ Some x → ⊥
none_is_not_some x e = cc

-- and what isn't, is none of narrower years
not_narrowed : (first last : ℕ) → 1980 ≤ first → last ≤ 2209 → (text : List ℕ) → moment 1980 2209 text ≡ None → moment first last text ≡ None
not_narrowed first last low high text none = by_value (moment first last text) refl
  where
    by_value : (o : Option ℤ) → moment first last text ≡ o → moment first last text ≡ None
    by_value None is = is
    by_value (Some m) is =
        let p = parts_of_moment first last text m (omega arith) is in
        let inside : IsCivilIn 1980 2209 p.year p.month p.day = record { civil = p.civil.civil; low = omega (arith, p.civil.low); high = omega (arith, p.civil.high) } in
        let wide = wider 1980 2209 p.year p.month p.day (omega arith) (omega arith) inside in
        let read : moment 1980 2209 text ≡ Some (moment_at p.year p.month p.day p.hours p.minutes p.seconds) =
        ap (moment 1980 2209) p.spelled
        ∙ moment-text_at 1980 2209 p.year p.month p.day p.hours p.minutes p.seconds wide p.clock
        ∙ read_at-passes 1980 2209 p.year p.month p.day p.hours p.minutes p.seconds inside p.clock in
        absurd (none_is_not_some _ (sym none ∙ read))

first_of_1990 : days_from_civil (pos 1990) 1 1 ≡ pos 7305
unfolding field_text_on_literals
first_of_1990 = refl

first_of_2200 : days_from_civil (pos 2200) 1 1 ≡ pos 84006
unfolding field_text_on_literals
first_of_2200 = refl

years_of_queries : AreYears 1990 2199 (pos 631152000) (pos 7258118399)
years_of_queries = record {
  some = omega arith;
  below = omega arith;
  small = omega arith;
  from = ap (λ d. pos 86400 *ℤ d) (sym first_of_1990);
  to = ap (λ d. pos 86400 *ℤ d) (sym first_of_2200);
}

-- the moments of queries, of the years 1990 to 2199, from what `read_moment` gives
pub query_moment : (text : List ℕ) (m : ℤ) → moment 1980 2209 text ≡ Some m → moment 1990 2199 text ≡ some_if (int_le (pos 631152000) m && int_le m (pos 7258118399)) m
query_moment text m is = narrowed 1990 2199 (pos 631152000) (pos 7258118399) years_of_queries text m is

pub no_query_moment : (text : List ℕ) → moment 1980 2209 text ≡ None → moment 1990 2199 text ≡ None
no_query_moment text none = not_narrowed 1990 2199 (omega arith) (omega arith) text none
