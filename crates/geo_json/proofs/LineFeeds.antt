-- Counting the line feeds of a text on from a place.
use Rattle.std.proofs.Common.{◌≡◌, ◌∙◌, ℕ, ◌+◌, ◌-◌, ◌≤◌, List, arith, ap, sym, cond, drop, length, min, nat_eq, take}
use Rattle.std.proofs.lemmas.List.{drop-take, take-take, take_min}
use Rattle.std.proofs.lemmas.List.Sums.{sum_by-take-drop}
use Rattle.std.specs.List.{count_by}
use Rattle.feed_meaning.specs.Locations.{row_at}

counted : (text : List ℕ) (from to : ℕ) → from ≤ to → count_by (nat_eq 10) (take from text) + count_by (nat_eq 10) (take (to - from) (drop from text)) ≡ count_by (nat_eq 10) (take to text)
counted text from to le =
    let whole = sum_by-take-drop (λ x. cond (nat_eq 10 x) 1 0) (take to text) from in
    let before = ap (count_by (nat_eq 10)) (take-take from to text le) in
    let sum : from + (to - from) ≡ to = omega (arith, le) in
    let behind = ap (count_by (nat_eq 10)) (ap (λ n. drop from (take n text)) (sym sum) ∙ drop-take from (to - from) text) in
    omega (arith, whole, before, behind)

pub row_on : (text : List ℕ) (from to line feeds : ℕ) → from ≤ to → line ≡ row_at text from → feeds ≡ count_by (nat_eq 10) (take (to - from) (drop from text)) → line + feeds ≡ row_at text to
row_on text from to line feeds le is e = omega (arith, counted text from to le, is, e)

-- Past the end there is no further line.
pub row_within : (text : List ℕ) (place : ℕ) → row_at text (min place (length text)) ≡ row_at text place
row_within text place = ap (λ t. 1 + count_by (nat_eq 10) t) (take_min place text)
