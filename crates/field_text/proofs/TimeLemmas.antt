-- The seconds of a time.
use Rattle.std.proofs.Common.{◌≡◌, ℕ, ◌+◌, ◌*◌, ◌<◌, ◌≤◌, List, Some, arith, sym}
use Rattle.std.proofs.lemmas.Bool.{and_parts, leb-true}
use Rattle.std.specs.List.{after_first, before_first}
use Rattle.field_text.specs.Grammars.{digits_within, is_colon, time}
use Rattle.field_text.proofs.NumberLemmas.{some_if-passed, some_if-passes}

-- a time has the seconds of its three numbers
pub time_from_parts : (text : List ℕ) (h m s : ℕ) → Some h ≡ digits_within 1 3 167 (before_first is_colon text)
    → Some m ≡ digits_within 2 2 59 (before_first is_colon (after_first is_colon text))
    → Some s ≡ digits_within 2 2 59 (after_first is_colon (after_first is_colon text))
    → Some (3600 * h + 60 * m + s) ≡ time text
time_from_parts text h m s hours minutes seconds =
    let a = some_if-passed _ _ _ hours in
    let b = some_if-passed _ _ _ minutes in
    let d = some_if-passed _ _ _ seconds in
    some_if-passes _ _ _ (grind (arith, a, b, d)) (omega (arith, a.1, b.1, d.1))

-- a time is before 168:00:00
pub time-bound : (text : List ℕ) (n : ℕ) → time text ≡ Some n → n < 604800
time-bound text n is =
    let read = some_if-passed _ _ _ (sym is) in
    let seconds = and_parts _ _ read.0 in
    let two = and_parts _ _ (and_parts _ _ seconds.0).0 in
    let hours = and_parts _ _ (and_parts _ _ two.0).0 in
    below _ _ _ n read.1 (leb-true _ 167 hours.1) (leb-true _ 59 two.1) (leb-true _ 59 seconds.1)
  where
    below : (h m s k : ℕ) → k ≡ 3600 * h + 60 * m + s → h ≤ 167 → m ≤ 59 → s ≤ 59 → k < 604800
    below h m s k e hours minutes seconds = omega arith
