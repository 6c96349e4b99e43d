-- The sequences of the records of each trip, after one more record.
use Rattle.std.proofs.Common.{◌≡◌, ℕ, Bool, true, false, cond, List, [], ◌∷◌, ◌++◌, Option, sym, ap, subst}
use Rattle.std.specs.BTreeMap.{BTreeMap, IsEmpty, is_at}
use Rattle.std.specs.List.{filter}
use Rattle.std.specs.Map.{lookup}
use Rattle.feed_meaning.specs.Rules.{Values}
use Rattle.feed_rules.specs.Sequences.{HoldsFirst, Key, key_cmp}

-- ---- the items that pass a test, after one more

filter-kept : {X : Type 0} (p : X → Bool) (xs : List X) (x : X) → p x ≡ true → filter p (xs ++ x ∷ []) ≡ filter p xs ++ x ∷ []
filter-kept p [] x e = ap (λ b. cond b (x ∷ []) []) e
filter-kept {X = X} p (y ∷ xs) x e = by (filter-kept p xs x e) (p y)
  where
    by : filter p (xs ++ x ∷ []) ≡ filter p xs ++ x ∷ []
        → (b : Bool) → cond b (y ∷ filter p (xs ++ x ∷ [])) (filter p (xs ++ x ∷ [])) ≡ cond b (y ∷ filter p xs) (filter p xs) ++ x ∷ []
    by rest true = ap (λ (zs : List X). y ∷ zs) rest
    by rest false = rest

filter-passed : {X : Type 0} (p : X → Bool) (xs : List X) (x : X) → p x ≡ false → filter p (xs ++ x ∷ []) ≡ filter p xs
filter-passed p [] x e = ap (λ b. cond b (x ∷ []) []) e
filter-passed {X = X} p (y ∷ xs) x e = by (filter-passed p xs x e) (p y)
  where
    by : filter p (xs ++ x ∷ []) ≡ filter p xs
        → (b : Bool) → cond b (y ∷ filter p (xs ++ x ∷ [])) (filter p (xs ++ x ∷ [])) ≡ cond b (y ∷ filter p xs) (filter p xs)
    by rest true = ap (λ (zs : List X). y ∷ zs) rest
    by rest false = rest

module _ (m : BTreeMap Key (Option ℕ)) (p : Values → Bool) (records : List Values) (r : Values) where
  -- a record that passes the test was noted
  pub kept-noted : p r ≡ true → HoldsFirst m (filter p records ++ r ∷ []) → HoldsFirst m (filter p (records ++ r ∷ []))
  kept-noted e holds = subst (HoldsFirst m) (sym (filter-kept p records r e)) holds

  -- one that doesn't pass changes nothing
  pub passed-noted : p r ≡ false → HoldsFirst m (filter p records) → HoldsFirst m (filter p (records ++ r ∷ []))
  passed-noted e holds = subst (HoldsFirst m) (sym (filter-passed p records r e)) holds

-- no record is noted at first
pub none-noted : (m : BTreeMap Key (Option ℕ)) → IsEmpty m → HoldsFirst m []
none-noted m e q = ap (lookup (is_at (key_cmp q))) e
