-- Entries of bags, and the labels and triples that they give.
use Rattle.std.proofs.Common.{◌≡◌, inl, inr, ℕ, zero, suc, ◌+◌, ◌<◌, List, [], ◌∷◌, ◌++◌, Some, Contains, length, map, slice_get, refl, sym, ◌∙◌, ap, subst, arith}
use Rattle.std.proofs.lemmas.List.Elements.{Contains-append_cases, Contains-append_left, Contains-append_right}
use Rattle.std.proofs.lemmas.Option.{get_or_from_slice_get}
use Rattle.flex_model.specs.declared.answer.Triple.{Triple}
use Rattle.flex_model.specs.LabelTable.{IsInRound, Label}
use Rattle.flex_model.proofs.Found.{Contains-first, Contains-rest, first_or_rest, found_in_map, none_contained}
use Rattle.round_engine.specs.Bags.{Entry, bag_at, round_at}
use Rattle.round_engine.specs.Flat.{label_of, labels_in, triple_at, triples_from}

map_in : {X Y : Type 0} (f : X → Y) (xs : List X) (x : X) → Contains xs x → Contains (map f xs) (f x)
map_in f [] x c = absurd (none_contained x c)
map_in f (a ∷ xs) x c = elim (first_or_rest a x xs c) [
  | inl e ↦ subst (λ y. Contains (f a ∷ map f xs) (f y)) (sym e) (Contains-first (f a) (map f xs))
  | inr later ↦ Contains-rest (f a) (f x) (map f xs) (map_in f xs x later)
]

pub map_of : {X Y : Type 0} (f : X → Y) (xs : List X) (y : Y) → Contains (map f xs) y → (x : X) × Contains xs x × (y ≡ f x)
map_of f [] y c = absurd (none_contained y c)
map_of f (a ∷ xs) y c = elim (first_or_rest (f a) y (map f xs) c) [
  | inl e ↦ (a, Contains-first a xs, e)
  | inr later ↦ (let found = map_of f xs y later in (found.0, Contains-rest a found.0 xs found.1, found.2))
]

pub in_labels : (bags : List (List Entry)) (i : ℕ) (entry : Entry) → Contains (bag_at bags i) entry → Contains (labels_in bags) (label_of entry)
in_labels [] i entry c = (let lt = c.1 in absurd (omega arith))
in_labels (bag ∷ bags) zero entry c = Contains-append_left (map label_of bag) (labels_in bags) (label_of entry) (map_in label_of bag entry c)
in_labels (bag ∷ bags) (suc i) entry c = Contains-append_right (map label_of bag) (labels_in bags) (label_of entry) (in_labels bags i entry c)

pub of_labels : (bags : List (List Entry)) (label : Label) → Contains (labels_in bags) label
    → (i : ℕ) × (entry : Entry) × Contains (bag_at bags i) entry × (label ≡ label_of entry)
of_labels [] label c = absurd (none_contained label c)
of_labels (bag ∷ bags) label c = elim (Contains-append_cases (map label_of bag) (labels_in bags) label c) [
  | inl first ↦ (let found = map_of label_of bag label first in (0, found.0, found.1, found.2))
  | inr later ↦ (let found = of_labels bags label later in (suc found.0, found.1, found.2, found.3))
]

pub in_triples : (t : ℕ) (bags : List (List Entry)) (i : ℕ) (entry : Entry) → Contains (bag_at bags i) entry
    → Contains (triples_from t bags) (triple_at (i + t) entry)
in_triples t [] i entry c = (let lt = c.1 in absurd (omega arith))
in_triples t (bag ∷ bags) zero entry c =
    let e : t ≡ 0 + t = omega arith in
    subst (λ n. Contains (triples_from t (bag ∷ bags)) (triple_at n entry)) e
    (Contains-append_left (map (triple_at t) bag) (triples_from (suc t) bags) (triple_at t entry) (map_in (triple_at t) bag entry c))
in_triples t (bag ∷ bags) (suc i) entry c =
    let e : i + suc t ≡ suc i + t = omega arith in
    subst (λ n. Contains (triples_from t (bag ∷ bags)) (triple_at n entry)) e
    (Contains-append_right (map (triple_at t) bag) (triples_from (suc t) bags) (triple_at (i + suc t) entry) (in_triples (suc t) bags i entry c))

pub of_triples : (t : ℕ) (bags : List (List Entry)) (triple : Triple) → Contains (triples_from t bags) triple
    → (i : ℕ) × (entry : Entry) × Contains (bag_at bags i) entry × (triple ≡ triple_at (i + t) entry)
of_triples t [] triple c = absurd (none_contained triple c)
of_triples t (bag ∷ bags) triple c = elim (Contains-append_cases (map (triple_at t) bag) (triples_from (suc t) bags) triple c) [
  | inl first ↦ (
      let found = map_of (triple_at t) bag triple first in
      let e : t ≡ 0 + t = omega arith in
      (0, found.0, found.1, found.2 ∙ ap (λ n. triple_at n found.0) e))
  | inr later ↦ (
      let found = of_triples (suc t) bags triple later in
      let e : found.0 + suc t ≡ suc found.0 + t = omega arith in
      (suc found.0, found.1, found.2, found.3 ∙ ap (λ n. triple_at n found.1) e))
]

-- rounds

pub in_round_range : (rounds : List (List (List Entry))) (r i : ℕ) (x : Entry) → Contains (bag_at (round_at rounds r) i) x → r < length rounds
in_round_range [] r i x c = (let lt = c.1 in absurd (omega arith))
in_round_range (a ∷ rest) zero i x c = omega arith
in_round_range (a ∷ rest) (suc r) i x c = (let lt = in_round_range rest r i x c in omega arith)

slice_map : (rounds : List (List (List Entry))) (ys : List (List Label)) (r : ℕ) → r < length rounds
    → slice_get (map labels_in rounds ++ ys) r ≡ Some (labels_in (round_at rounds r))
slice_map [] ys r lt = absurd (omega arith)
slice_map (a ∷ rest) ys zero lt = refl
slice_map (a ∷ rest) ys (suc r) lt = slice_map rest ys r (omega arith)

slice_last : (rounds : List (List (List Entry))) (y : List Label) → slice_get (map labels_in rounds ++ y ∷ []) (length rounds) ≡ Some y
slice_last [] y = refl
slice_last (a ∷ rest) y = slice_last rest y

pub map_length : (rounds : List (List (List Entry))) → length (map labels_in rounds) ≡ length rounds
map_length [] = refl
map_length (a ∷ rest) = ap suc (map_length rest)

pub in_earlier : (rounds : List (List (List Entry))) (ys : List (List Label)) (r i : ℕ) (entry : Entry) → Contains (bag_at (round_at rounds r) i) entry
    → IsInRound (map labels_in rounds ++ ys) (suc r) (label_of entry)
in_earlier rounds ys r i entry c =
    (labels_in (round_at rounds r), slice_map rounds ys r (in_round_range rounds r i entry c), in_labels (round_at rounds r) i entry c)

pub in_last : (rounds : List (List (List Entry))) (round : List (List Entry)) (i : ℕ) (entry : Entry) → Contains (bag_at round i) entry
    → IsInRound (map labels_in rounds ++ labels_in round ∷ []) (suc (length rounds)) (label_of entry)
in_last rounds round i entry c = (labels_in round, slice_last rounds (labels_in round), in_labels round i entry c)

-- a label of a round has an entry there
pub entry_of : (rounds : List (List (List Entry))) (k : ℕ) (label : Label) → IsInRound (map labels_in rounds) k label
    → (r : ℕ) × (i : ℕ) × (entry : Entry) × (suc r ≡ k) × Contains (bag_at (round_at rounds r) i) entry × (label ≡ label_of entry)
entry_of rounds zero label h = absurd h
entry_of rounds (suc r) label h =
    let found = found_in_map labels_in rounds r h.0 h.1 in
    let at = get_or_from_slice_get rounds r found.0 [] found.1 in
    let of = of_labels found.0 label (subst (λ these. Contains these label) (sym found.2) h.2) in
    (r, of.0, of.1, refl, subst (λ these. Contains (bag_at these of.0) of.1) (sym at) of.2, of.3)
