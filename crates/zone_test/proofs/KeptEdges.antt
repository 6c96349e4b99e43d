-- The edges that are kept in a slab are all that a point in it can meet.
use borrow.Author.Differences.{le-true}
use Rattle.std.proofs.Common.{◌≡◌, inl, inr, ◌⊎◌, ℕ, zero, suc, ◌+◌, ◌-◌, ◌<◌, ◌≤◌, ℤ, pos, ◌≤ℤ◌, int_le, int_lt, Bool, true, false, ◌&&◌, ◌||◌, cond, nat_le, if◌then◌else◌, List, [], ◌∷◌, ◌++◌, All, length, get_or, take, count_by, refl, sym, ◌∙◌, ap, subst, arith, true≢false, add-one}
use Rattle.std.specs.Int.{int_max, int_min}
use Rattle.std.specs.List.{list_any}
use Rattle.std.specs.Ordering.{int_eq}
use Rattle.std.proofs.lemmas.Bool.{le-leb}
use Rattle.std.proofs.lemmas.Int.{clamps, ints}
use Rattle.std.proofs.lemmas.List.{get_or_default}
use Rattle.std.proofs.lemmas.List.Elements.{All-nil, All-push, All-weaker}
use Rattle.std.proofs.lemmas.List.Folds.{list_any-append, list_any_more}
use Rattle.std.proofs.lemmas.List.Sums.{count_by_more_no, count_by_more_yes, sum_by_push}
use Rattle.std.proofs.Math.Seq.{take_all}
use Rattle.flex_model.specs.declared.place.Position.{Position}
use Rattle.flex_model.specs.Zone.{Edge, cross, is_between, is_crossed, is_on_edge}
use Rattle.zone_test.specs.Slabs.{AreIndexed, edge_from, edges_in, north, nowhere, numbers_below, reaches, slab_of, south}
use Rattle.zone_test.proofs.RisingBounds.{slab_of-le, slab_of-mono}
use Rattle.zone_test.proofs.RingEdges.{edge_at, edges_length, edges_of}

both_hold : (a b : Bool) → (a && b) ≡ true → (a ≡ true) × (b ≡ true)
both_hold true b e = (refl, e)
both_hold false b e = cc

one_holds : (a b : Bool) → (a || b) ≡ true → (a ≡ true) ⊎ (b ≡ true)
one_holds true b e = inl refl
one_holds false b e = inr e

hold_both : (a b : Bool) → a ≡ true → b ≡ true → (a && b) ≡ true
hold_both true b e f = f
hold_both false b e f = cc

min_low : (a b x : ℤ) → (a ≤ℤ x) ⊎ (b ≤ℤ x) → int_min a b ≤ℤ x
min_low a b x (inl h) = omega (arith, ints, clamps)
min_low a b x (inr h) = omega (arith, ints, clamps)

max_high : (a b x : ℤ) → (x ≤ℤ a) ⊎ (x ≤ℤ b) → x ≤ℤ int_max a b
max_high a b x (inl h) = omega (arith, ints, clamps)
max_high a b x (inr h) = omega (arith, ints, clamps)

-- an edge begins no farther north than it ends
pub south_first : (bounds : List ℤ) (edge : Edge) → slab_of bounds (south edge) ≤ slab_of bounds (north edge)
south_first bounds edge = slab_of-mono bounds (south edge) (north edge) (omega (arith, ints, clamps))

-- an edge whose latitudes take in the point's reaches into its slab
reached : (bounds : List ℤ) (lat : ℤ) (edge : Edge) → south edge ≤ℤ lat → lat ≤ℤ north edge → reaches bounds (slab_of bounds lat) edge ≡ true
reached bounds lat edge low high =
    hold_both (nat_le (slab_of bounds (south edge)) (slab_of bounds lat)) (nat_le (slab_of bounds lat) (slab_of bounds (north edge)))
    (le-leb (slab_of bounds (south edge)) (slab_of bounds lat) (slab_of-mono bounds (south edge) lat low))
    (le-leb (slab_of bounds lat) (slab_of bounds (north edge)) (slab_of-mono bounds lat (north edge) high))

le_le : (a b : ℤ) → int_le a b ≡ true → a ≤ℤ b
le_le a b e = (let h = le-true a b e in omega (arith, ints))

between : (a b x : ℤ) → is_between a b x ≡ true → (int_min a b ≤ℤ x) × (x ≤ℤ int_max a b)
between a b x e = elim (one_holds (int_le a x && int_le x b) (int_le b x && int_le x a) e) [
  | inl up ↦ (let both = both_hold (int_le a x) (int_le x b) up in (min_low a b x (inl (le_le a x both.0)), max_high a b x (inr (le_le x b both.1))))
  | inr down ↦ (let both = both_hold (int_le b x) (int_le x a) down in (min_low a b x (inr (le_le b x both.0)), max_high a b x (inl (le_le x a both.1))))
]

lt_le : (a b : ℤ) → int_lt a b ≡ true → a ≤ℤ b
lt_le a b e = grind (arith, ints)

pub on_edge_reaches : (bounds : List ℤ) (point : Position) (edge : Edge) → is_on_edge point edge ≡ true → reaches bounds (slab_of bounds point.lat) edge ≡ true
on_edge_reaches bounds point edge e =
    let parts = both_hold (int_eq (cross point edge) (pos 0)) (is_between edge.0.lon edge.1.lon point.lon && is_between edge.0.lat edge.1.lat point.lat) e in
    let lats = both_hold (is_between edge.0.lon edge.1.lon point.lon) (is_between edge.0.lat edge.1.lat point.lat) parts.1 in
    let spans = between edge.0.lat edge.1.lat point.lat lats.1 in
    reached bounds point.lat edge spans.0 spans.1

pub crossed_reaches : (bounds : List ℤ) (point : Position) (edge : Edge) → is_crossed point edge ≡ true → reaches bounds (slab_of bounds point.lat) edge ≡ true
crossed_reaches bounds point edge e =
    let a = edge.0.lat in
    let b = edge.1.lat in
    let x = point.lat in
    elim (one_holds (int_le a x && (int_lt x b && int_lt (pos 0) (cross point edge))) (int_lt x a && (int_le b x && int_lt (cross point edge) (pos 0))) e) [
      | inl up ↦ (
          let one = both_hold (int_le a x) (int_lt x b && int_lt (pos 0) (cross point edge)) up in
          let two = both_hold (int_lt x b) (int_lt (pos 0) (cross point edge)) one.1 in
          reached bounds x edge (min_low a b x (inl (le_le a x one.0))) (max_high a b x (inr (lt_le x b two.0))))
      | inr down ↦ (
          let one = both_hold (int_lt x a) (int_le b x && int_lt (cross point edge) (pos 0)) down in
          let two = both_hold (int_le b x) (int_lt (cross point edge) (pos 0)) one.1 in
          reached bounds x edge (min_low a b x (inr (le_le b x two.0))) (max_high a b x (inl (lt_le x a one.0))))
    ]

pub numbers_are_below : (q : ℕ → Bool) (n : ℕ) → All (λ i. i < n) (numbers_below q n)
numbers_are_below q zero = All-nil (λ i. i < zero)
numbers_are_below q (suc n) =
    let before = All-weaker (λ i. i < n) (λ i. i < suc n) (λ i lt. omega arith) (numbers_below q n) (numbers_are_below q n) in
    elim (q n) as (λ b. All (λ i. i < suc n) (if b then numbers_below q n ++ n ∷ [] else numbers_below q n)) [
      | true ↦ All-push (λ i. i < suc n) (numbers_below q n) n before (omega arith)
      | false ↦ before
    ]

-- A test of edges that only those pass which are kept has the answer of all edges. `f` gives the edge of a number.
module _ (xs : List Edge) (d : Edge) (f : ℕ → Edge) (same : (i : ℕ) → i < length xs → f i ≡ get_or xs i d)
    (p : Edge → Bool) (q : ℕ → Bool) (kept : (i : ℕ) → p (f i) ≡ true → q i ≡ true) where
  left_out : (n : ℕ) → q n ≡ false → p (f n) ≡ false
  left_out n e = elim (p (f n)) as (λ b. p (f n) ≡ b → b ≡ false) [
    | true ↦ λ h. absurd (true≢false (sym (kept n h) ∙ e))
    | false ↦ λ h. refl
  ] refl

  or_false : (a b : Bool) → b ≡ false → a ≡ (a || b)
  or_false true b e = refl
  or_false false b e = sym e

  or_last : (b : Bool) → (b || false) ≡ b
  or_last true = refl
  or_last false = refl

  pub any_kept : (n : ℕ) → n ≤ length xs → list_any (λ i. p (f i)) (numbers_below q n) ≡ list_any p (take n xs)
  any_kept zero le = refl
  any_kept (suc n) le =
      let g = λ (i : ℕ). p (f i) in
      let before = any_kept n (omega arith) in
      let here = ap p (same n (omega arith)) in
      let more : list_any p (take (suc n) xs) ≡ (list_any p (take n xs) || p (get_or xs n d)) =
      ap (λ k. list_any p (take k xs)) (sym (add-one n)) ∙ list_any_more p xs n d (omega arith) in
      elim (q n) as (λ b. q n ≡ b → list_any g (if b then numbers_below q n ++ n ∷ [] else numbers_below q n) ≡ list_any p (take (suc n) xs)) [
        | true ↦ λ e. list_any-append g (numbers_below q n) (n ∷ []) ∙ ap (λ b. list_any g (numbers_below q n) || b) (or_last (p (f n)) ∙ here)
            ∙ ap (λ b. b || p (get_or xs n d)) before ∙ sym more
        | false ↦ λ e. before ∙ or_false (list_any p (take n xs)) (p (get_or xs n d)) (sym here ∙ left_out n e) ∙ sym more
      ] refl

  more_counted : (n : ℕ) → n < length xs → count_by p (take (suc n) xs) ≡ count_by p (take n xs) + cond (p (get_or xs n d)) 1 0
  more_counted n lt = ap (λ k. count_by p (take k xs)) (sym (add-one n)) ∙ (elim (p (get_or xs n d)) as (λ b. p (get_or xs n d) ≡ b → count_by p (take (n + 1) xs) ≡ count_by p (take n xs) + cond b 1 0) [
    | true ↦ λ e. count_by_more_yes p xs n d lt e
    | false ↦ λ e. (let more = count_by_more_no p xs n d lt e in omega (arith, more))
  ] refl)

  yes_counted : (n : ℕ) → n < length xs → count_by (λ i. p (f i)) (numbers_below q n) ≡ count_by p (take n xs)
      → count_by (λ i. p (f i)) (numbers_below q n ++ n ∷ []) ≡ count_by p (take (suc n) xs)
  yes_counted n lt before =
      let here : cond (p (f n)) 1 0 ≡ cond (p (get_or xs n d)) 1 0 = ap {B = ℕ} (λ b. cond b 1 0) (ap p (same n lt)) in
      let pushed : count_by (λ i. p (f i)) (numbers_below q n ++ n ∷ []) ≡ count_by (λ i. p (f i)) (numbers_below q n) + cond (p (f n)) 1 0 =
      sum_by_push (λ i. cond (p (f i)) 1 0) (numbers_below q n) n in
      omega (arith, before, here, more_counted n lt, pushed)

  no_counted : (n : ℕ) → n < length xs → count_by (λ i. p (f i)) (numbers_below q n) ≡ count_by p (take n xs)
      → q n ≡ false → count_by (λ i. p (f i)) (numbers_below q n) ≡ count_by p (take (suc n) xs)
  no_counted n lt before e =
      let here : cond (p (f n)) 1 0 ≡ cond (p (get_or xs n d)) 1 0 = ap {B = ℕ} (λ b. cond b 1 0) (ap p (same n lt)) in
      let none : cond (p (f n)) 1 0 ≡ 0 = ap {B = ℕ} (λ b. cond b 1 0) (left_out n e) in
      omega (arith, before, here, more_counted n lt, none)

  pub count_kept : (n : ℕ) → n ≤ length xs → count_by (λ i. p (f i)) (numbers_below q n) ≡ count_by p (take n xs)
  count_kept zero le = refl
  count_kept (suc n) le =
      elim (q n) as (λ b. q n ≡ b → count_by (λ i. p (f i)) (if b then numbers_below q n ++ n ∷ [] else numbers_below q n) ≡ count_by p (take (suc n) xs)) [
        | true ↦ λ e. yes_counted n (omega arith) (count_kept n (omega arith))
        | false ↦ λ e. no_counted n (omega arith) (count_kept n (omega arith)) e
      ] refl

-- the edges of a ring by their first corners
edge_same : (corners : List Position) (i : ℕ) → i < length (edges_of corners) → edge_from corners i ≡ get_or (edges_of corners) i (nowhere, nowhere)
edge_same corners i lt = (let size = edges_length corners in sym (edge_at corners i nowhere (omega (arith, size))))

module _ (corners : List Position) (bounds : List ℤ) (point : Position) where
  whole : take (length corners - 1) (edges_of corners) ≡ edges_of corners
  whole = take_all (length corners - 1) (edges_of corners) (let size = edges_length corners in omega (arith, size))

  pub some_on : list_any (λ at. is_on_edge point (edge_from corners at)) (edges_in corners bounds (length corners - 1) (slab_of bounds point.lat))
      ≡ list_any (is_on_edge point) (edges_of corners)
  some_on =
      any_kept (edges_of corners) (nowhere, nowhere) (edge_from corners) (edge_same corners) (is_on_edge point) (λ at. reaches bounds (slab_of bounds point.lat) (edge_from corners at))
      (λ at e. on_edge_reaches bounds point (edge_from corners at) e) (length corners - 1) (let size = edges_length corners in omega (arith, size))
      ∙ ap (list_any (is_on_edge point)) whole

  pub all_crossed : count_by (λ at. is_crossed point (edge_from corners at)) (edges_in corners bounds (length corners - 1) (slab_of bounds point.lat))
      ≡ count_by (is_crossed point) (edges_of corners)
  all_crossed =
      count_kept (edges_of corners) (nowhere, nowhere) (edge_from corners) (edge_same corners) (is_crossed point) (λ at. reaches bounds (slab_of bounds point.lat) (edge_from corners at))
      (λ at e. crossed_reaches bounds point (edge_from corners at) e) (length corners - 1) (let size = edges_length corners in omega (arith, size))
      ∙ ap (count_by (is_crossed point)) whole

-- the numbers that stand in the point's slab
module _ (corners : List Position) (bounds : List ℤ) (slabs : List (List ℕ)) (are : AreIndexed corners bounds slabs) (point : Position) (at : ℕ)
    (is_slab : at ≡ slab_of bounds point.lat) (found : List ℕ) (is : found ≡ get_or slabs at found) where
  found_edges : found ≡ edges_in corners bounds (length corners - 1) (slab_of bounds point.lat)
  found_edges =
      let size = are.kept.count in
      let within = slab_of-le bounds point.lat in
      is ∙ get_or_default slabs at found [] (omega (arith, size, within, is_slab)) ∙ ap (λ k. get_or slabs k []) is_slab
      ∙ are.kept.each (slab_of bounds point.lat) (omega (arith, size, within))

  -- `slice` is the corners, and `numbers` those in the slab
  module _ (slice : List Position) (same : slice ≡ corners) (numbers : List ℕ) (theirs : numbers ≡ found) where
    pub all_within : All (λ at. at < length slice - 1) numbers
    all_within =
        subst (λ l. All (λ at. at < length l - 1) numbers) (sym same)
        (subst (All (λ at. at < length corners - 1)) (sym (theirs ∙ found_edges))
        (numbers_are_below (λ at. reaches bounds (slab_of bounds point.lat) (edge_from corners at)) (length corners - 1)))

    pub on_found : list_any (λ at. is_on_edge point (edge_from slice at)) numbers ≡ list_any (is_on_edge point) (edges_of corners)
    on_found =
        ap (λ l. list_any (λ at. is_on_edge point (edge_from l at)) numbers) same
        ∙ ap (list_any (λ at. is_on_edge point (edge_from corners at))) (theirs ∙ found_edges) ∙ some_on corners bounds point

    pub found_crossed : count_by (λ at. is_crossed point (edge_from slice at)) numbers ≡ count_by (is_crossed point) (edges_of corners)
    found_crossed =
        ap (λ l. count_by (λ at. is_crossed point (edge_from l at)) numbers) same
        ∙ ap (count_by (λ at. is_crossed point (edge_from corners at))) (theirs ∙ found_edges) ∙ all_crossed corners bounds point
