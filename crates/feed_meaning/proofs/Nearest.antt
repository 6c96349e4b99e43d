-- The nearest items before one, by an order on a finite list.
use Rattle.std.proofs.Common.{◌≡◌, ℕ, zero, suc, ◌+◌, ◌<◌, Bool, true, false, ◌&&◌, ◌||◌, cond, List, [], ◌∷◌, Contains, Some, refl, sym, ◌∙◌, ap, subst, arith, ◌⊎◌, inl, inr}
use Rattle.std.specs.Prelude.{count_by}
use Rattle.std.specs.List.{filter, find, list_any}
use Rattle.std.proofs.lemmas.Bool.{and_from, and_left, and_parts, cases_Bool, false≢true}
use Rattle.std.proofs.lemmas.List.Folds.{Any-from_list_any, list_any-from_Any}
use Rattle.flex_model.proofs.Found.{Contains-first, Contains-rest, first_or_rest, none_contained}
use Rattle.feed_meaning.proofs.RisingItems.{count_less}

-- ---- items of a list that pass a test

pub any_item : {X : Type 0} (p : X → Bool) (xs : List X) → list_any p xs ≡ true → (x : X) × Contains xs x × (p x ≡ true)
any_item p xs e = let a = Any-from_list_any p xs e in (a.1, (a.0, a.2, a.3), a.4)

pub item_any : {X : Type 0} (p : X → Bool) (xs : List X) (x : X) → Contains xs x → p x ≡ true → list_any p xs ≡ true
item_any p xs x c e = list_any-from_Any p xs (c.0, x, c.1, c.2, e)

pub none_passes : {X : Type 0} (p : X → Bool) (xs : List X) (x : X) → list_any p xs ≡ false → Contains xs x → p x ≡ true → ⊥
none_passes p xs x none c e = false≢true (sym none ∙ item_any p xs x c e)

pub filter_contains : {X : Type 0} (p : X → Bool) (xs : List X) (x : X) → Contains xs x → p x ≡ true → Contains (filter p xs) x
filter_contains p [] x c e = absurd (none_contained x c)
filter_contains p (y ∷ xs) x c e = by (λ h. filter_contains p xs x h e) (p y) refl (first_or_rest y x xs c)
  where
    by : (Contains xs x → Contains (filter p xs) x) → (b : Bool) → p y ≡ b → ((x ≡ y) ⊎ Contains xs x) → Contains (cond b (y ∷ filter p xs) (filter p xs)) x
    by rest true is (inl same) = subst (λ z. Contains (y ∷ filter p xs) z) (sym same) (Contains-first y (filter p xs))
    by rest true is (inr h) = Contains-rest y x (filter p xs) (rest h)
    by rest false is (inl same) = absurd (false≢true (sym is ∙ ap p (sym same) ∙ e))
    by rest false is (inr h) = rest h

pub contains_filter : {X : Type 0} (p : X → Bool) (xs : List X) (x : X) → Contains (filter p xs) x → Contains xs x × (p x ≡ true)
contains_filter p [] x c = absurd (none_contained x c)
contains_filter p (y ∷ xs) x c = by (λ h. contains_filter p xs x h) (p y) refl c
  where
    by : (Contains (filter p xs) x → Contains xs x × (p x ≡ true)) → (b : Bool) → p y ≡ b → Contains (cond b (y ∷ filter p xs) (filter p xs)) x → Contains (y ∷ xs) x × (p x ≡ true)
    by rest false is c' = let r = rest c' in (Contains-rest y x xs r.0, r.1)
    by rest true is c' = elim (first_or_rest y x (filter p xs) c') [
      | inl same ↦ (subst (λ z. Contains (y ∷ xs) z) (sym same) (Contains-first y xs), ap p same ∙ is)
      | inr h ↦ let r = rest h in (Contains-rest y x xs r.0, r.1)
    ]

-- where some item passes, a search finds one
pub find_item : {X : Type 0} (p : X → Bool) (xs : List X) → list_any p xs ≡ true → (x : X) × (find p xs ≡ Some x) × Contains xs x × (p x ≡ true)
find_item p [] e = absurd (false≢true e)
find_item {X = X} p (y ∷ xs) e = by (λ h. find_item p xs h) (p y) refl e
  where
    by : (list_any p xs ≡ true → (x : X) × (find p xs ≡ Some x) × Contains xs x × (p x ≡ true)) → (b : Bool) → p y ≡ b → (b || list_any p xs) ≡ true
        → (x : X) × (cond b (Some y) (find p xs) ≡ Some x) × Contains (y ∷ xs) x × (p x ≡ true)
    by rest true is h = (y, refl, Contains-first y xs, is)
    by rest false is h = let r = rest h in (r.0, r.1, Contains-rest y r.0 xs r.2, r.3)

module _ {X : Type 0} (lt : X → X → Bool) (irreflexive : (x : X) → lt x x ≡ false) (transitive : (x y z : X) → lt x y ≡ true → lt y z ≡ true → lt x z ≡ true) where
  -- a common beginning: each item is one of the others, or comes after another item
  abbrev pub ComesDown : List X → List X → Type 0
  ComesDown items others = (s : X) → Contains items s → Contains others s ⊎ ((s' : X) × Contains items s' × (lt s' s ≡ true))

  -- one of the others is the item, or comes before it
  abbrev pub IsReached : List X → X → Type 0
  IsReached others s = (t : X) × Contains others t × ((t ≡ s) ⊎ (lt t s ≡ true))

  reached-before : (others : List X) (s s' : X) → lt s' s ≡ true → IsReached others s' → IsReached others s
  reached-before others s s' less (t, c, inl same) = (t, c, inr (ap (λ x. lt x s) same ∙ less))
  reached-before others s s' less (t, c, inr h) = (t, c, inr (transitive t s' s h less))

  reached : (items others : List X) → ComesDown items others → (n : ℕ) (s : X) → Contains items s → count_by (λ w. lt w s) items < n → IsReached others s
  reached items others down zero s c low = absurd (omega (arith, low))
  reached items others down (suc n) s c low = elim (down s c) [
    | inl h ↦ (s, h, inl refl)
    | inr next ↦
        let s' = next.0 in
        let fewer = count_less (λ w. lt w s') (λ w. lt w s) items s' (λ w h. transitive w s' s h next.2) next.1 (irreflexive s') next.2 in
        reached-before others s s' next.2 (reached items others down n s' next.1 (omega (arith, fewer, low)))
  ]

  pub all_reached : (items others : List X) → ComesDown items others → (s : X) → Contains items s → IsReached others s
  all_reached items others down s c = reached items others down (count_by (λ w. lt w s) items + 1) s c (omega arith)

  -- an item before r with none between
  pub record IsNearest (items : List X) (r p : X) : Type 0 where
    pub there : Contains items p
    pub before : lt p r ≡ true
    pub none : (t : X) → Contains items t → lt p t ≡ true → lt t r ≡ true → ⊥

  nearest : (items : List X) (r : X) (n : ℕ) (a : X) → Contains items a → lt a r ≡ true → count_by (λ t. lt a t && lt t r) items < n → (p : X) × IsNearest items r p
  nearest items r zero a c less low = absurd (omega (arith, low))
  nearest items r (suc n) a c less low = elim (cases_Bool (list_any (λ t. lt a t && lt t r) items)) [
    | inl some ↦
        let next = any_item (λ t. lt a t && lt t r) items some in
        let t = next.0 in
        let parts = and_parts (lt a t) (lt t r) next.2 in
        let fewer = count_less (λ u. lt t u && lt u r) (λ u. lt a u && lt u r) items t (λ u h. let p = and_parts (lt t u) (lt u r) h in and_from (lt a u) (lt u r) (transitive a t u parts.0 p.0) p.1)
        next.1 (and_left (lt t t) (lt t r) (irreflexive t)) next.2 in
        nearest items r n t next.1 parts.1 (omega (arith, fewer, low))
    | inr none ↦ (a, record { there = c; before = less; none = λ t ct la lr. none_passes (λ u. lt a u && lt u r) items t none ct (and_from (lt a t) (lt t r) la lr) })
  ]

  -- where some item comes before r there is a nearest one
  pub some_nearest : (items : List X) (r a : X) → Contains items a → lt a r ≡ true → (p : X) × IsNearest items r p
  some_nearest items r a c less = nearest items r (count_by (λ t. lt a t && lt t r) items + 1) a c less (omega arith)
