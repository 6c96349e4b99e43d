-- How large the values of fields are.
use Rattle.std.proofs.Common.{◌≡◌, ℕ, ◌+◌, ◌*◌, ◌^◌, ◌<◌, ◌≤◌, Bool, true, false, ◌&&◌, List, [], ◌∷◌, ℤ, pos, Option, Some, None, refl, sym, arith}
use Rattle.std.specs.Prelude.{nat_le, unwrap_or, unsigned_abs, is_none}
use Rattle.std.specs.List.{after_first, before_first}
use Rattle.std.proofs.lemmas.Bool.{and_parts, false≢true, leb-true}
use Rattle.std.proofs.lemmas.Int.{ints}
use Rattle.field_text.proofs.NumeralLemmas.{degree_within-bound}
use Rattle.feed_tables.specs.Refusals.{is_given}
use Rattle.flex_model.specs.SoundTimes.{IsOnGlobe}
use Rattle.field_text.specs.Grammars.{count, degree, has_digits, is_colon, number, some_if, time}
use Rattle.feed_meaning.specs.FeedValue.{coordinate, seconds}
use Rattle.feed_meaning.specs.Rules.{is_bad}

-- a value comes of a test that holds
pub tested : {X : Type 0} (test : Bool) (v x : X) → some_if test v ≡ Some x → (test ≡ true) × (v ≡ x)
tested true v x e = (refl, cc)
tested false v x e = cc

pub count_is : (greatest : ℕ) (text : List ℕ) (n : ℕ) → count greatest text ≡ Some n → (n ≤ greatest) × (number text ≡ n)
count_is greatest text n e =
    let t = tested (has_digits 1 20 text && nat_le (number text) greatest) (number text) n e in
    let low : number text ≤ greatest = leb-true (number text) greatest (and_parts (has_digits 1 20 text) (nat_le (number text) greatest) t.0).1 in
    let same = t.1 in
    (omega (arith, low, same), t.1)

-- the number of a field that is empty or a count
number_kept : (greatest : ℕ) (text : List ℕ) (o : Option ℕ) → count greatest text ≡ o → (is_given text && is_none o) ≡ false → number text ≤ greatest
number_kept greatest [] o is kept = omega arith
number_kept greatest (b ∷ text) None is kept = absurd (false≢true (sym kept))
number_kept greatest (b ∷ text) (Some n) is kept = let c = count_is greatest (b ∷ text) n is in let e = c.1 in let low = c.0 in omega (arith, e, low)

pub number_low : (greatest : ℕ) (text : List ℕ) → is_bad (count greatest) text ≡ false → number text ≤ greatest
number_low greatest text kept = number_kept greatest text (count greatest text) refl kept

time-parts : (a b c : Bool) (hours minutes parts n : ℕ)
    → some_if (a && nat_le hours 167 && b && nat_le minutes 59 && c && nat_le parts 59) (3600 * hours + 60 * minutes + parts) ≡ Some n → n < 604800
time-parts a b c hours minutes parts n e =
    let t = tested (a && nat_le hours 167 && b && nat_le minutes 59 && c && nat_le parts 59) (3600 * hours + 60 * minutes + parts) n e in
    let last = and_parts (a && nat_le hours 167 && b && nat_le minutes 59 && c) (nat_le parts 59) t.0 in
    let digits = and_parts (a && nat_le hours 167 && b && nat_le minutes 59) c last.0 in
    let middle = and_parts (a && nat_le hours 167 && b) (nat_le minutes 59) digits.0 in
    let digits' = and_parts (a && nat_le hours 167) b middle.0 in
    let first = and_parts a (nat_le hours 167) digits'.0 in
    let low_hours : hours ≤ 167 = leb-true hours 167 first.1 in
    let low_minutes : minutes ≤ 59 = leb-true minutes 59 middle.1 in
    let low_parts : parts ≤ 59 = leb-true parts 59 last.1 in
    let same : 3600 * hours + 60 * minutes + parts ≡ n = t.1 in
    omega arith

pub time_low : (text : List ℕ) (n : ℕ) → time text ≡ Some n → n < 604800
time_low text n e =
    let hours = before_first is_colon text in
    let minutes = before_first is_colon (after_first is_colon text) in
    let parts = after_first is_colon (after_first is_colon text) in
    time-parts (has_digits 1 3 hours) (has_digits 2 2 minutes) (has_digits 2 2 parts) (number hours) (number minutes) (number parts) n e

-- the seconds of a field, 0 where it has no time
seconds_of_time : (text : List ℕ) (o : Option ℕ) → time text ≡ o → unwrap_or o 0 < 604800
seconds_of_time text None is = omega arith
seconds_of_time text (Some n) is = time_low text n is

pub seconds_low : (text : List ℕ) → seconds text < 604800
seconds_low text = seconds_of_time text (time text) refl

-- ---- degrees

pub coordinate_low : (greatest : ℕ) (text : List ℕ) → unsigned_abs (coordinate greatest text) ≤ greatest * 10 ^ 15
coordinate_low greatest text = by (degree greatest text) refl
  where
    by : (o : Option ℤ) → degree greatest text ≡ o → unsigned_abs (unwrap_or o (pos 0)) ≤ greatest * 10 ^ 15
    by None is = omega arith
    by (Some z) is = let low = degree_within-bound (pos (greatest * 10 ^ 15)) text z is in omega (arith, ints, low)

-- a position that is read is on the globe
pub is_on_globe : (lon lat : List ℕ) → IsOnGlobe (record { lon = coordinate 180 lon; lat = coordinate 90 lat })
is_on_globe lon lat = record { lon = coordinate_low 180 lon; lat = coordinate_low 90 lat }
