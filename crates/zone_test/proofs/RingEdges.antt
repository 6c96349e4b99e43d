-- The edges of a ring, by the index of their first corner.
use Rattle.std.proofs.Common.{◌≡◌, ℕ, zero, suc, ◌+◌, ◌-◌, ◌<◌, ◌≤◌, Bool, true, false, ◌||◌, List, [], ◌∷◌, length, get_or, take, drop, zip, count_by, refl, sym, ◌∙◌, ap, subst, arith}
use Rattle.std.specs.List.{list_any}
use Rattle.std.proofs.Math.Seq.{take_all}
use Rattle.std.proofs.lemmas.List.Folds.{list_any_at, list_any_more}
use Rattle.std.proofs.lemmas.List.Sums.{count_by_more_no, count_by_more_yes}
use Rattle.flex_model.specs.declared.place.Position.{Position}
use Rattle.flex_model.specs.Zone.{Edge}

-- the edges of a ring with these corners
abbrev pub edges_of : List Position → List Edge
edges_of corners = zip corners (drop 1 corners)

shifted_length : (a : Position) (rest : List Position) → length (zip (a ∷ rest) rest) ≡ length rest
shifted_length a [] = refl
shifted_length a (b ∷ rest) = ap suc (shifted_length b rest)

shifted_at : (a : Position) (rest : List Position) (at : ℕ) (d : Edge) → at < length rest
    → get_or (zip (a ∷ rest) rest) at d ≡ (get_or (a ∷ rest) at d.0, get_or rest at d.1)
shifted_at a [] at d lt = absurd (omega arith)
shifted_at a (b ∷ rest) zero d lt = refl
shifted_at a (b ∷ rest) (suc at) d lt = shifted_at b rest at d (omega arith)

less_one : (n : ℕ) → n ≡ suc n - 1
less_one n = omega arith

pub edges_length : (corners : List Position) → length (edges_of corners) ≡ length corners - 1
edges_length [] = refl
edges_length (a ∷ rest) = shifted_length a rest ∙ less_one (length rest)

-- an edge goes from a corner to the next
pub edge_at : (corners : List Position) (at : ℕ) (d : Position) → at + 1 < length corners
    → get_or (edges_of corners) at (d, d) ≡ (get_or corners at d, get_or corners (at + 1) d)
edge_at [] at d lt = absurd (omega arith)
edge_at (a ∷ rest) at d lt =
    let next : suc at ≡ at + 1 = omega arith in
    shifted_at a rest at (d, d) (omega arith) ∙ ap (λ k. (get_or (a ∷ rest) at d, get_or (a ∷ rest) k d)) next

-- a loop over the edges that looks for one that passes the test, or counts those; `slice` is the corners
module _ (p : Edge → Bool) (corners slice : List Position) (same : slice ≡ corners) (at : ℕ) where
  answer_of : (d : Position) (b : Bool) → p (get_or slice at d, get_or slice (at + 1) d) ≡ b → at + 1 < length slice
      → p (get_or (edges_of corners) at (d, d)) ≡ b
  answer_of d b is lt =
      subst (λ l. p (get_or (edges_of l) at (d, d)) ≡ b) same (ap p (edge_at slice at d lt) ∙ is)

  within : at + 1 < length slice → at < length (edges_of corners)
  within lt = (let size = edges_length corners in let e = ap length same in omega (arith, size, e))

  pub none_yet : (d : Position) → at + 1 < length slice → list_any p (take at (edges_of corners)) ≡ false
      → p (get_or slice at d, get_or slice (at + 1) d) ≡ false → list_any p (take (at + 1) (edges_of corners)) ≡ false
  none_yet d lt none differs =
      list_any_more p (edges_of corners) at (d, d) (within lt)
      ∙ ap (λ b. b || p (get_or (edges_of corners) at (d, d))) none ∙ answer_of d false differs lt

  pub one_found : (d : Position) → at + 1 < length slice → p (get_or slice at d, get_or slice (at + 1) d) ≡ true → list_any p (edges_of corners) ≡ true
  one_found d lt holds = list_any_at p (edges_of corners) at (d, d) (within lt) (answer_of d true holds lt)

  all_taken : length slice - 1 ≤ at → take at (edges_of corners) ≡ edges_of corners
  all_taken end = (let size = edges_length corners in let e = ap length same in take_all at (edges_of corners) (omega (arith, size, e)))

  pub none_at_all : length slice - 1 ≤ at → list_any p (take at (edges_of corners)) ≡ false → list_any p (edges_of corners) ≡ false
  none_at_all end none = ap (list_any p) (sym (all_taken end)) ∙ none

  pub one_more : (d : Position) → at + 1 < length slice → (count : ℕ) → count ≡ count_by p (take at (edges_of corners))
      → p (get_or slice at d, get_or slice (at + 1) d) ≡ true → count + 1 ≡ count_by p (take (at + 1) (edges_of corners))
  one_more d lt count is holds =
      ap (λ n. n + 1) is ∙ sym (count_by_more_yes p (edges_of corners) at (d, d) (within lt) (answer_of d true holds lt))

  pub no_more : (d : Position) → at + 1 < length slice → (count : ℕ) → count ≡ count_by p (take at (edges_of corners))
      → p (get_or slice at d, get_or slice (at + 1) d) ≡ false → count ≡ count_by p (take (at + 1) (edges_of corners))
  no_more d lt count is differs = is ∙ sym (count_by_more_no p (edges_of corners) at (d, d) (within lt) (answer_of d false differs lt))

  pub all_counted : length slice - 1 ≤ at → (count : ℕ) → count ≡ count_by p (take at (edges_of corners)) → count ≡ count_by p (edges_of corners)
  all_counted end count is = is ∙ ap (count_by p) (all_taken end)
