-- What bags keep after an offer.
use Rattle.std.proofs.Common.{◌≡◌, ◌⊎◌, inl, inr, ◌↔◌, ℕ, ◌<◌, List, [], Contains, get_or, length, set, refl, sym, ◌∙◌, ap, subst, arith, Result, Ok}
use Rattle.std.specs.Borrow.{Bor}
use Rattle.std.proofs.lemmas.Bool.{cases_order}
use Rattle.std.proofs.lemmas.List.{get_or-set_same, get_or-set_other, length-set}
use Rattle.flex_model.specs.declared.memory.NoMemory.{NoMemory}
use Rattle.flex_model.proofs.Decisions.{decide_covers_pair}
use Rattle.flex_model.proofs.Orders.{CoversPair_refl, CoversPair_trans}
use Rattle.label_bag.specs.declared.Offered.{Offered}
use Rattle.label_bag.specs.declared.Offered.TheVariants.{Added, Covered}
use Rattle.flex_model.specs.declared.answer.Pair.{Pair}
use Rattle.flex_model.specs.Triple.{CoversPair}
use Rattle.label_bag.specs.Bag.{HasCovering}
use Rattle.round_engine.specs.declared.label.Label.{Label}
use Rattle.round_engine.specs.Bags.{Entry, IsKept, IsOffer, bag_at}

-- a bag that has a covering pair keeps the pair
pub kept_is_covered : (bag : List Entry) (pair : Pair) → HasCovering bag pair ↔ IsKept bag pair
kept_is_covered bag pair = (
  λ h. record { entry = h.0; among = h.1; covers = h.2 },
  λ kept. (kept.entry, kept.among, kept.covers),
)

-- an offer to a bag that was answered
module _ (old new : List Entry) (pair : Pair) (label : Bor Label) (result : Result Offered NoMemory)
    (covered : (result ≡ Ok Covered) ↔ ((entry : Entry) × Contains old entry × CoversPair entry.0 pair))
    (same : result ≡ Ok Covered → new ≡ old)
    (added : result ≡ Ok Added → (entry : Entry) → Contains new entry ↔ ((entry ≡ (pair, label)) ⊎ (Contains old entry × (CoversPair pair entry.0 → ⊥)))) where
  pub offer_keeps : (offered : Offered) → result ≡ Ok offered → IsKept new pair
  offer_keeps Added e = record { entry = (pair, label); among = (added e (pair, label)).1 (inl refl); covers = CoversPair_refl pair }
  offer_keeps Covered e =
      let found = covered.0 e in
      record { entry = found.0; among = subst (λ these. Contains these found.0) (sym (same e)) found.1; covers = found.2 }

  pub offer_grows : (offered : Offered) → result ≡ Ok offered → (other : Pair) → IsKept old other → IsKept new other
  offer_grows Added e other kept = elim (decide_covers_pair pair kept.entry.0) [
    | yes over ↦ record { entry = (pair, label); among = (added e (pair, label)).1 (inl refl); covers = CoversPair_trans pair kept.entry.0 other over kept.covers }
    | no not ↦ record { entry = kept.entry; among = (added e kept.entry).1 (inr (kept.among, not)); covers = kept.covers }
  ]
  offer_grows Covered e other kept = subst (λ these. IsKept these other) (sym (same e)) kept

  pub offer_came : (offered : Offered) → result ≡ Ok offered → (other : Entry) → Contains new other → Contains old other ⊎ (other ≡ (pair, label))
  offer_came Added e other c = elim ((added e other).0 c) [
    | inl is ↦ inr is
    | inr before ↦ inl before.0
  ]
  offer_came Covered e other c = inl (subst (λ these. Contains these other) (same e) c)

-- an offer to one bag of several
module _ (bags : List (List Entry)) (at : ℕ) (entry : Entry) (bag : List Entry) (within : at < length bags)
    (grows : (other : Pair) → IsKept (bag_at bags at) other → IsKept bag other)
    (came : (other : Entry) → Contains bag other → Contains (bag_at bags at) other ⊎ (other ≡ entry)) where
  pub set_offer : IsOffer at entry bags (set bags at bag)
  set_offer = record {
    grows = record {
      count = length-set bags at bag;
      kept = λ i pair kept. elim (cases_order i at) [
        | inl e ↦ subst (λ these. IsKept these pair) (sym (ap (λ n. get_or (set bags at bag) n []) e ∙ get_or-set_same bags at bag [] within))
            (grows pair (subst (λ n. IsKept (bag_at bags n) pair) e kept))
        | inr (inl less) ↦ subst (λ these. IsKept these pair) (sym (get_or-set_other bags at i bag [] (λ e. absurd (omega arith)))) kept
        | inr (inr more) ↦ subst (λ these. IsKept these pair) (sym (get_or-set_other bags at i bag [] (λ e. absurd (omega arith)))) kept
      ];
    };
    came = λ i other c. elim (cases_order i at) [
      | inl e ↦ elim (came other (subst (λ these. Contains these other) (ap (λ n. get_or (set bags at bag) n []) e ∙ get_or-set_same bags at bag [] within) c)) [
        | inl before ↦ inl (subst (λ n. Contains (bag_at bags n) other) (sym e) before)
        | inr is ↦ inr (e, is)
      ]
      | inr (inl less) ↦ inl (subst (λ these. Contains these other) (get_or-set_other bags at i bag [] (λ e. absurd (omega arith))) c)
      | inr (inr more) ↦ inl (subst (λ these. Contains these other) (get_or-set_other bags at i bag [] (λ e. absurd (omega arith))) c)
    ];
  }
