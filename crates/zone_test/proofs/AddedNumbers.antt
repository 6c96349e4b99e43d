-- Numbers that are added to slabs one by one.
use Rattle.std.proofs.Common.{◌≡◌, inl, inr, ◌⊎◌, ℕ, ◌+◌, ◌<◌, ◌≤◌, nat_le, ℤ, Bool, true, false, ◌&&◌, if◌then◌else◌, List, [], ◌∷◌, ◌++◌, length, get_or, set, replicate, refl, sym, ◌∙◌, ap, subst, arith, add-one}
use Rattle.std.proofs.lemmas.Bool.{cases_order, leb-true, leb-false}
use Rattle.std.proofs.lemmas.List.{get_or_default, get_or-replicate, get_or-set_same, get_or-set_other, length-replicate, length-set}
use Rattle.flex_model.specs.declared.place.Position.{Position}
use Rattle.zone_test.specs.Slabs.{AreSlabsBelow, IsWithNumber, edge_from, edges_in, north, slab_of, south}

-- the number stands at the end of the slabs from the first one to one before a limit
pub record IsUpTo (slabs : List (List ℕ)) (number first limit : ℕ) (now : List (List ℕ)) : Type 0 where
  pub count : length now ≡ length slabs
  pub added : (slab : ℕ) → slab < length slabs → first ≤ slab → slab < limit → get_or now slab [] ≡ get_or slabs slab [] ++ number ∷ []
  pub others : (slab : ℕ) → slab < length slabs → (slab < first) ⊎ (limit ≤ slab) → get_or now slab [] ≡ get_or slabs slab []

module _ (slabs : List (List ℕ)) (number first : ℕ) where
  -- no slab yet
  pub none_added : IsUpTo slabs number first first slabs
  none_added = record { count = refl; added = λ slab lt le less. absurd (omega arith); others = λ slab lt out. refl }

  -- one slab more
  module _ (at : ℕ) (now : List (List ℕ)) (from : first ≤ at) (within : at < length slabs) (is : IsUpTo slabs number first at now) (old new : List ℕ)
      (was : old ≡ get_or now at old) (pushed : new ≡ old ++ number ∷ []) where
    many : at < length now
    many = (let size = is.count in omega (arith, size))

    here : get_or (set now at new) at [] ≡ get_or slabs at [] ++ number ∷ []
    here = get_or-set_same now at new [] many ∙ pushed ∙ ap (λ l. l ++ number ∷ []) (was ∙ get_or_default now at old [] many ∙ is.others at within (inr (omega arith)))

    apart : (slab : ℕ) → (slab < first) ⊎ (at + 1 ≤ slab) → slab ≡ at → ⊥
    apart slab (inl less) e = omega (arith, e)
    apart slab (inr more) e = omega (arith, e)

    still : (slab : ℕ) → (slab < first) ⊎ (at + 1 ≤ slab) → (slab < first) ⊎ (at ≤ slab)
    still slab (inl less) = inl less
    still slab (inr more) = inr (omega arith)

    pub one_added : IsUpTo slabs number first (at + 1) (set now at new)
    one_added = record {
      count = length-set now at new ∙ is.count;
      added = λ slab lt le less. elim (cases_order slab at) [
        | inl same ↦ subst (λ k. get_or (set now at new) k [] ≡ get_or slabs k [] ++ number ∷ []) (sym same) here
        | inr (inl before) ↦ get_or-set_other now at slab new [] (λ e. omega (arith, e)) ∙ is.added slab lt le before
        | inr (inr after) ↦ absurd (omega arith)
      ];
      others = λ slab lt out. get_or-set_other now at slab new [] (apart slab out) ∙ is.others slab lt (still slab out);
    }

  -- up to the last slab
  pub up_to_last : (last at : ℕ) (now : List (List ℕ)) → at ≡ last + 1 → IsUpTo slabs number first at now → IsWithNumber slabs number first last now
  up_to_last last at now end is = record {
    count = is.count;
    added = λ slab lt from le. is.added slab lt from (omega (arith, end));
    others = λ slab lt out. is.others slab lt (still slab out);
  }
    where
      still : (slab : ℕ) → (slab < first) ⊎ (last < slab) → (slab < first) ⊎ (at ≤ slab)
      still slab (inl less) = inl less
      still slab (inr more) = inr (omega (arith, end))

module _ (corners : List Position) (bounds : List ℤ) where
  -- slabs without an edge
  pub no_edge : (slabs : List (List ℕ)) → slabs ≡ replicate (length bounds + 1) [] → AreSlabsBelow corners bounds 0 slabs
  no_edge slabs is = record {
    count = size;
    each = λ slab lt. ap (λ l. get_or l slab []) is ∙ get_or-replicate (length bounds + 1) slab [] [] (omega (arith, size));
  }
    where
      size : length slabs ≡ length bounds + 1
      size = ap length is ∙ length-replicate (length bounds + 1) []

  -- one edge more
  module _ (at : ℕ) (slabs now : List (List ℕ)) (are : AreSlabsBelow corners bounds at slabs)
      (is : IsWithNumber slabs at (slab_of bounds (south (edge_from corners at))) (slab_of bounds (north (edge_from corners at))) now) where
    more : (slab : ℕ) → slab < length slabs → (low high : Bool) → nat_le (slab_of bounds (south (edge_from corners at))) slab ≡ low
        → nat_le slab (slab_of bounds (north (edge_from corners at))) ≡ high
        → get_or now slab [] ≡ (if low && high then edges_in corners bounds at slab ++ at ∷ [] else edges_in corners bounds at slab)
    more slab lt true true low high =
        is.added slab lt (leb-true (slab_of bounds (south (edge_from corners at))) slab low) (leb-true slab (slab_of bounds (north (edge_from corners at))) high)
        ∙ ap (λ l. l ++ at ∷ []) (are.each slab lt)
    more slab lt true false low high = is.others slab lt (inr (leb-false slab (slab_of bounds (north (edge_from corners at))) high)) ∙ are.each slab lt
    more slab lt false high low h = is.others slab lt (inl (leb-false (slab_of bounds (south (edge_from corners at))) slab low)) ∙ are.each slab lt

    pub edge_added : AreSlabsBelow corners bounds (at + 1) now
    edge_added = record {
      count = is.count ∙ are.count;
      each = λ slab lt.
          more slab (let size = is.count in omega (arith, size)) (nat_le (slab_of bounds (south (edge_from corners at))) slab) (nat_le slab (slab_of bounds (north (edge_from corners at)))) refl refl
          ∙ ap (λ n. edges_in corners bounds n slab) (sym (add-one at));
    }
