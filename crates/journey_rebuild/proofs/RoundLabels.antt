-- Labels bag by bag, and rounds one by one.
use Rattle.std.proofs.Common.{◌≡◌, inl, inr, ℕ, zero, suc, ◌+◌, ◌<◌, List, [], ◌∷◌, ◌++◌, length, map, take, sym, ◌∙◌, ap, subst, append_assoc, arith}
use Rattle.std.proofs.lemmas.Bool.{cases_order}
use Rattle.std.proofs.lemmas.List.{append-nil, map-append, take_more}
use Rattle.bound_cert.specs.declared.cert.CertRound.{CertRound}
use Rattle.bound_cert.specs.Parts.{told_label}
use Rattle.flex_model.specs.LabelTable.{Label}
use Rattle.round_engine.specs.Bags.{Entry, bag_at, round_at}
use Rattle.round_engine.specs.Flat.{label_of, labels_in}
use Rattle.journey_rebuild.specs.Rounds.{are_told}

-- what holds below a number and at it
pub up_to : (P : ℕ → Type 0) (n : ℕ) → ((i : ℕ) → i < n → P i) → P n → (i : ℕ) → i < n + 1 → P i
up_to P n below at i lt = elim (cases_order i n) [
  | inl same ↦ subst P (sym same) at
  | inr (inl less) ↦ below i less
  | inr (inr more) ↦ absurd (omega (arith, lt, more))
]

labels_step : (bags : List (List Entry)) (n : ℕ) → n < length bags → labels_in (take (suc n) bags) ≡ labels_in (take n bags) ++ map label_of (bag_at bags n)
labels_step [] n lt = absurd (omega arith)
labels_step (bag ∷ bags) zero lt = append-nil (map label_of bag)
labels_step (bag ∷ bags) (suc n) lt =
    ap (λ these. map label_of bag ++ these) (labels_step bags n (omega arith))
    ∙ sym (append_assoc (map label_of bag) (labels_in (take n bags)) (map label_of (bag_at bags n)))

-- the labels of one bag more
pub labels_more : (bags : List (List Entry)) (n : ℕ) (told new : List Label) (entries : List Entry) → n < length bags → told ≡ labels_in (take n bags)
    → new ≡ told ++ map label_of entries → entries ≡ bag_at bags n → new ≡ labels_in (take (n + 1) bags)
labels_more bags n told new entries lt before added are =
    let e : suc n ≡ n + 1 = omega arith in
    added ∙ ap (λ these. these ++ map label_of entries) before ∙ ap (λ these. labels_in (take n bags) ++ map label_of these) are
    ∙ sym (labels_step bags n lt) ∙ ap (λ m. labels_in (take m bags)) e

-- what one round more tells
pub rounds_more : (table : List (List (List Entry))) (n : ℕ) (old new : List CertRound) (round : CertRound) → n < length table
    → are_told old ≡ map labels_in (take n table) → map told_label round.labels ≡ labels_in (round_at table n) → new ≡ old ++ round ∷ []
    → are_told new ≡ map labels_in (take (n + 1) table)
rounds_more table n old new round lt before is pushed =
    let told : CertRound → List Label = λ round. map told_label round.labels in
    ap are_told pushed ∙ map-append told old (round ∷ []) ∙ ap (λ these. these ++ told round ∷ []) before
    ∙ ap (λ labels. map labels_in (take n table) ++ labels ∷ []) is
    ∙ sym (ap (map labels_in) (take_more table n [] lt) ∙ map-append labels_in (take n table) (round_at table n ∷ []))
