-- What holds of each item that was looked at.
use Rattle.std.proofs.Common.{◌≡◌, ℕ, ◌+◌, ◌<◌, ◌≤◌, List, length, get_or, take, All, sym, subst}
use Rattle.std.proofs.lemmas.List.{take_all, take_more}
use Rattle.std.proofs.lemmas.List.Elements.{All-push}

module _ {X : Type 0} (P : X → Type 0) (xs : List X) where
  pub taken_more : (i : ℕ) (x : X) → i < length xs → x ≡ get_or xs i x → All P (take i xs) → P x → All P (take (i + 1) xs)
  taken_more i x low is all here =
      subst (λ (ys : List X). All P ys) (sym (take_more xs i x low)) (All-push P (take i xs) (get_or xs i x) all (subst P is here))

  -- the same of the item at any value where there is none
  pub taken_next : (i : ℕ) (d : X) → i < length xs → All P (take i xs) → P (get_or xs i d) → All P (take (i + 1) xs)
  taken_next i d low all here = subst (λ (ys : List X). All P ys) (sym (take_more xs i d low)) (All-push P (take i xs) (get_or xs i d) all here)

  pub taken_all : (n : ℕ) → length xs ≤ n → All P (take n xs) → All P xs
  taken_all n low all = subst (λ (ys : List X). All P ys) (take_all n xs low) all
