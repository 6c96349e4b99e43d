-- What holds of the items of a list as far as a loop has come.
use Rattle.std.proofs.Common.{◌≡◌, ℕ, ◌+◌, ◌<◌, ◌≤◌, List, [], ◌∷◌, All, length, take, get_or, refl, sym, subst, arith}
use Rattle.std.proofs.lemmas.List.{take_all, take_more}
use Rattle.std.proofs.lemmas.List.Elements.{All-push}

module _ {X : Type 0} (P : X → Type 0) (xs ys : List X) (same : ys ≡ xs) where
  -- one more item
  pub All_more : (i : ℕ) (d : X) → All P (take i xs) → i < length ys → P (get_or ys i d) → All P (take (i + 1) xs)
  All_more i d all low here =
      let low' : i < length xs = subst (λ l. i < length l) same low in
      subst (All P) (sym (take_more xs i d low')) (All-push P (take i xs) (get_or xs i d) all (subst (λ l. P (get_or l i d)) same here))

  -- and all of them
  pub All_end : (i : ℕ) → All P (take i xs) → length ys ≤ i → All P xs
  All_end i all end = subst (All P) (take_all i xs (subst (λ l. length l ≤ i) same end)) all

-- a list without items
pub no_items : {X : Type 0} (xs : List X) → length xs ≡ 0 → xs ≡ []
no_items [] e = refl
no_items (x ∷ xs) e = absurd (omega arith)
