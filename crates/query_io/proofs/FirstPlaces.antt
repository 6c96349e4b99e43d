-- The first item that passes, found by a look from the front.
use Rattle.std.proofs.Common.{◌≡◌, ℕ, ◌<◌, Bool, true, false, cond, ltb, List, length, get_or, take, Some, None, sym, ap, ◌∙◌, arith}
use Rattle.std.specs.Prelude.{position}
use Rattle.std.specs.List.{position_or_len}
use Rattle.std.proofs.lemmas.Bool.{false_from_ne_true, lt-ltb}
use Rattle.std.proofs.lemmas.List.{length-take-le, get_or-take}
use Rattle.std.proofs.lemmas.List.Folds.{list_any_at}
use Rattle.std.proofs.lemmas.List.Sums.{position_or_len_is}
use Rattle.std.proofs.lemmas.Option.{none-some}
use Rattle.feed_meaning.proofs.Places.{first_is_low}

-- where there is no such place no item passes
none_before : {X : Type 0} (p : X → Bool) (xs : List X) (k : ℕ) (d : X) → position p xs ≡ None → k < length xs → p (get_or xs k d) ≡ false
none_before p xs k d none low =
    false_from_ne_true (p (get_or xs k d)) (λ h.
    none-some (position_or_len p xs)
    (sym none ∙ ap (λ b. cond b (Some (position_or_len p xs)) None) (lt-ltb (position_or_len p xs) (length xs) (first_is_low p xs (list_any_at p xs k d low h)))))

-- an item that passes, where none before it does, is the first one
pub found_first : {X : Type 0} (p : X → Bool) (xs : List X) (i : ℕ) (x : X) → i < length xs → x ≡ get_or xs i x → position p (take i xs) ≡ None → p x ≡ true → Some i ≡ position p xs
found_first p xs i x low is none passes =
    let within : length (take i xs) ≡ i = length-take-le i xs (omega (arith, low)) in
    let first : position_or_len p xs ≡ i = position_or_len_is p xs i x (omega (arith, low))
    (λ k lt. ap p (sym (get_or-take i xs k x lt)) ∙ none_before p (take i xs) k x none (omega (arith, lt, within)))
    (λ lt. ap p (sym is) ∙ passes) in
    sym (ap (λ n. cond (ltb n (length xs)) (Some n) None) first ∙ ap (λ b. cond b (Some i) None) (lt-ltb i (length xs) low))
