-- The moments of queries are those of the years 1990 to 2199 among those of 1980 to 2209.
use Rattle.std.proofs.Common.{◌≡◌, ℕ, ◌+◌, ◌*◌, ◌<◌, ◌≤◌, Bool, true, false, ◌&&◌, List, None, Some, nat_lt, ℤ, pos, ◌+ℤ◌, ◌*ℤ◌, ◌≤ℤ◌, ◌<ℤ◌, refl, sym, ◌∙◌, ap, subst, arith}
use Rattle.std.specs.Prelude.{codes, nat_le, slice_range}
use Rattle.std.proofs.lemmas.Bool.{and_from, and_parts, leb-true, ltb-false, ltb-true}
use Rattle.jiff_core.specs.Calendar.{days_from_civil}
use Rattle.jiff_core.proofs.SignedLemmas.{signed_arith}
use Rattle.flex_model.specs.SoundQuery.{IsQueryMoment}
use Rattle.field_text.specs.Grammars.{is_civil, is_shaped, moment, number, some_if}
use Rattle.field_text.proofs.DateLemmas.{IsCivilIn, civil_bounds, civil_from_test, test_from_civil}
use Rattle.field_text.proofs.OnLiterals.{field_text_on_literals}
use Rattle.feed_meaning.proofs.FieldBounds.{tested}

first_of_1990 : days_from_civil (pos 1990) 1 1 ≡ pos 7305
unfolding field_text_on_literals
first_of_1990 = refl

first_of_2200 : days_from_civil (pos 2200) 1 1 ≡ pos 84006
unfolding field_text_on_literals
first_of_2200 = refl

module _ (shape : Bool) (year month day hours minutes seconds : ℕ) where
  abbrev passes : ℕ → ℕ → Bool
  passes first last = shape && is_civil first last year month day && nat_le hours 23 && nat_le minutes 59 && nat_le seconds 59

  abbrev instant : ℤ
  instant = (pos 86400 *ℤ days_from_civil (pos year) month day) +ℤ pos (3600 * hours + 60 * minutes + seconds)

  record Parts (first last : ℕ) : Type 0 where
    shaped : shape ≡ true
    civil : IsCivilIn first last year month day
    hour : nat_le hours 23 ≡ true
    minute : nat_le minutes 59 ≡ true
    second : nat_le seconds 59 ≡ true
    of_day : 3600 * hours + 60 * minutes + seconds < 86400

  parts : (first last : ℕ) → last ≤ 9999 → passes first last ≡ true → Parts first last
  parts first last small h =
      let last_part = and_parts (shape && is_civil first last year month day && nat_le hours 23 && nat_le minutes 59) (nat_le seconds 59) h in
      let middle = and_parts (shape && is_civil first last year month day && nat_le hours 23) (nat_le minutes 59) last_part.0 in
      let begin = and_parts (shape && is_civil first last year month day) (nat_le hours 23) middle.0 in
      let day_part = and_parts shape (is_civil first last year month day) begin.0 in
      let a : hours ≤ 23 = leb-true hours 23 begin.1 in
      let b : minutes ≤ 59 = leb-true minutes 59 middle.1 in
      let e : seconds ≤ 59 = leb-true seconds 59 last_part.1 in
      record {
        shaped = day_part.0;
        civil = civil_from_test first last year month day small day_part.1;
        hour = begin.1;
        minute = middle.1;
        second = last_part.1;
        of_day = omega arith;
      }

  whole : (first last : ℕ) → Parts first last → passes first last ≡ true
  whole first last p =
      and_from (shape && is_civil first last year month day && nat_le hours 23 && nat_le minutes 59) (nat_le seconds 59)
      (and_from (shape && is_civil first last year month day && nat_le hours 23) (nat_le minutes 59)
      (and_from (shape && is_civil first last year month day) (nat_le hours 23)
      (and_from shape (is_civil first last year month day) p.shaped (test_from_civil first last year month day p.civil)) p.hour) p.minute) p.second

  -- the same moment in other years
  within : (first last first' last' : ℕ) → Parts first last → first' ≤ year → year ≤ last' → Parts first' last'
  within first last first' last' p low high = record {
    shaped = p.shaped;
    civil = record { civil = p.civil.civil; low = low; high = high };
    hour = p.hour;
    minute = p.minute;
    second = p.second;
    of_day = p.of_day;
  }

  too_early : Parts 1980 2209 → year < 1990 → pos 631152000 ≤ℤ instant → ⊥
  too_early p early low =
      let civil = (within 1980 2209 1980 1989 p p.civil.low (omega (arith, early))).civil in
      let high : days_from_civil (pos year) month day <ℤ pos 7305 = subst (λ d. days_from_civil (pos year) month day <ℤ d) first_of_1990 (civil_bounds 1980 1989 year month day (omega arith) civil).1 in
      let second = p.of_day in
      omega (arith, signed_arith, high, second, low)

  too_late : Parts 1980 2209 → 2199 < year → instant ≤ℤ pos 7258118399 → ⊥
  too_late p late high =
      let civil = (within 1980 2209 2200 2209 p (omega (arith, late)) p.civil.high).civil in
      let low : pos 84006 ≤ℤ days_from_civil (pos year) month day = subst (λ d. d ≤ℤ days_from_civil (pos year) month day) first_of_2200 (civil_bounds 2200 2209 year month day (omega arith) civil).0 in
      omega (arith, signed_arith, low, high)

  narrower : passes 1980 2209 ≡ true → pos 631152000 ≤ℤ instant → instant ≤ℤ pos 7258118399 → passes 1990 2199 ≡ true
  narrower h low high =
      let p = parts 1980 2209 (omega arith) h in
      whole 1990 2199 (within 1980 2209 1990 2199 p
      (from (nat_lt year 1990) refl (λ e. too_early p e low)) (from' (nat_lt 2199 year) refl (λ e. too_late p e high)))
    where
      from : (b : Bool) → nat_lt year 1990 ≡ b → (year < 1990 → ⊥) → 1990 ≤ year
      from true is not_so = absurd (not_so (ltb-true year 1990 is))
      from false is not_so = ltb-false year 1990 is

      from' : (b : Bool) → nat_lt 2199 year ≡ b → (2199 < year → ⊥) → year ≤ 2199
      from' true is not_so = absurd (not_so (ltb-true 2199 year is))
      from' false is not_so = ltb-false 2199 year is

  wider : passes 1990 2199 ≡ true → (passes 1980 2209 ≡ true) × IsQueryMoment instant
  wider h =
      let p = parts 1990 2199 (omega arith) h in
      let years = p.civil in
      let bounds = civil_bounds 1990 2199 year month day (omega arith) p.civil in
      let low : pos 7305 ≤ℤ days_from_civil (pos year) month day = subst (λ d. d ≤ℤ days_from_civil (pos year) month day) first_of_1990 bounds.0 in
      let high : days_from_civil (pos year) month day <ℤ pos 84006 = subst (λ d. days_from_civil (pos year) month day <ℤ d) first_of_2200 bounds.1 in
      let second = p.of_day in (
        whole 1980 2209 (within 1990 2199 1980 2209 p (omega (arith, years.low)) (omega (arith, years.high))),
        record { low = omega (arith, signed_arith, low); high = omega (arith, signed_arith, high, second) },
      )

  parts-kept : (m : ℤ) → some_if (passes 1980 2209) instant ≡ Some m → pos 631152000 ≤ℤ m → m ≤ℤ pos 7258118399 → Some m ≡ some_if (passes 1990 2199) instant
  parts-kept m e low high =
      let t = tested (passes 1980 2209) instant m e in
      ap Some (sym t.1) ∙ ap (λ b. some_if b instant) (sym (narrower t.0 (subst (λ n. pos 631152000 ≤ℤ n) (sym t.1) low) (subst (λ n. n ≤ℤ pos 7258118399) (sym t.1) high)))

  parts-dropped : (m : ℤ) → some_if (passes 1980 2209) instant ≡ Some m → (IsQueryMoment m → ⊥) → None ≡ some_if (passes 1990 2199) instant
  parts-dropped m e outside = by (passes 1990 2199) refl
    where
      by : (b : Bool) → passes 1990 2199 ≡ b → None ≡ some_if b instant
      by true is = absurd (outside (subst IsQueryMoment (tested (passes 1980 2209) instant m e).1 (wider is).1))
      by false is = refl

  parts-absent : some_if (passes 1980 2209) instant ≡ None → None ≡ some_if (passes 1990 2199) instant
  parts-absent e = by (passes 1990 2199) refl
    where
      by : (b : Bool) → passes 1990 2199 ≡ b → None ≡ some_if b instant
      by true is = let there = ap (λ b. some_if b instant) (wider is).0 in cc
      by false is = refl

module _ (text : List ℕ) where
  abbrev shape-of : Bool
  shape-of = is_shaped (codes "0000-00-00T00:00:00Z") text

  pub moment_kept : (m : ℤ) → moment 1980 2209 text ≡ Some m → pos 631152000 ≤ℤ m → m ≤ℤ pos 7258118399 → Some m ≡ moment 1990 2199 text
  moment_kept m e low high =
      parts-kept shape-of (number (slice_range text 0 4)) (number (slice_range text 5 7)) (number (slice_range text 8 10))
      (number (slice_range text 11 13)) (number (slice_range text 14 16)) (number (slice_range text 17 19)) m e low high

  pub moment_dropped : (m : ℤ) → moment 1980 2209 text ≡ Some m → (IsQueryMoment m → ⊥) → None ≡ moment 1990 2199 text
  moment_dropped m e outside =
      parts-dropped shape-of (number (slice_range text 0 4)) (number (slice_range text 5 7)) (number (slice_range text 8 10))
      (number (slice_range text 11 13)) (number (slice_range text 14 16)) (number (slice_range text 17 19)) m e outside

  pub moment_absent : moment 1980 2209 text ≡ None → None ≡ moment 1990 2199 text
  moment_absent e =
      parts-absent shape-of (number (slice_range text 0 4)) (number (slice_range text 5 7)) (number (slice_range text 8 10))
      (number (slice_range text 11 13)) (number (slice_range text 14 16)) (number (slice_range text 17 19)) e
