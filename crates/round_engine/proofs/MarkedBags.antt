-- Marked bags after an offer.
use Rattle.std.proofs.Common.{◌≡◌, ◌⊎◌, inl, inr, ℕ, ◌<◌, List, [], ◌∷◌, ◌++◌, Contains, get_or, length, refl, sym, subst, arith}
use Rattle.std.proofs.lemmas.List.{length_push}
use Rattle.std.proofs.lemmas.List.Elements.{All-contains, Contains-get_or}
use Rattle.flex_model.proofs.Found.{Contains-first}
use Rattle.round_engine.specs.Bags.{AreMarked, Entry, IsOffer, bag_at}
use Rattle.round_engine.proofs.Apart.{in_more}

pub none_marked : AreMarked [] []
none_marked = record { within = λ k d lt. absurd (omega arith); whole = λ i entry c. absurd (let lt = c.1 in omega arith) }

pub marked_more : (bags : List (List Entry)) (marked : List ℕ) → AreMarked bags marked → AreMarked (bags ++ [] ∷ []) marked
marked_more bags marked are = record {
  within = λ k d lt. let l = length_push bags [] in let low = are.within k d lt in omega arith;
  whole = λ i entry c. are.whole i entry (in_more bags i entry c);
}

module _ (bags : List (List Entry)) (marked marked' : List ℕ) (at : ℕ) (are : AreMarked bags marked) (low : at < length bags)
    (kept : (i : ℕ) → Contains marked i → Contains marked' i) (came : (i : ℕ) → Contains marked' i → Contains marked i ⊎ (i ≡ at)) where
  each_within : (i : ℕ) → Contains marked' i → i < length bags
  each_within i c = elim (came i c) [
    | inl before ↦ All-contains (λ n. n < length bags) marked i are.within before
    | inr is ↦ omega arith
  ]

  -- one number more
  pub marked_on : AreMarked bags marked'
  marked_on = record {
    within = λ k d lt. each_within (get_or marked' k d) (Contains-get_or marked' k d lt);
    whole = λ i entry c. kept i (are.whole i entry c);
  }

  -- and an entry in that bag
  pub marked_offer : (new : List (List Entry)) (entry : Entry) → (bag_at bags at ≡ [] → Contains marked' at) → IsOffer at entry bags new → AreMarked new marked'
  marked_offer new entry empty offer = record {
    within = λ k d lt.
        let count = offer.grows.count in
        let low = each_within (get_or marked' k d) (Contains-get_or marked' k d lt) in
        omega arith;
    whole = λ i other c. elim (offer.came i other c) [
      | inl before ↦ kept i (are.whole i other before)
      | inr new ↦ subst (Contains marked') (sym new.0) (there (bag_at bags at) refl)
    ];
  }
    where
      there : (bag : List Entry) → bag_at bags at ≡ bag → Contains marked' at
      there [] e = empty e
      there (x ∷ xs) e = kept at (are.whole at x (subst (λ these. Contains these x) (sym e) (Contains-first x xs)))
