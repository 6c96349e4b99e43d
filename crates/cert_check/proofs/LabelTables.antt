-- The labels of a part in one list are those of its table.
use Rattle.std.proofs.Common.{◌≡◌, inl, inr, ℕ, zero, suc, ◌+◌, ◌<◌, pos, List, [], ◌∷◌, ◌++◌, Some, Contains, get_or, length, map, slice_get, option_map, take, refl, sym, ◌∙◌, ap, subst, arith}
use Rattle.std.proofs.Math.Seq.{take-suc}
use Rattle.std.proofs.lemmas.List.{append-nil, append_assoc, length-take-le}
use Rattle.std.proofs.lemmas.List.Elements.{Contains-append_cases, Contains-append_left, Contains-append_right}
use Rattle.std.proofs.lemmas.Option.{none-some, same_Some, slice_get-get_or, slice_get-map}
use Rattle.bound_cert.specs.declared.cert.CertLabel.{CertLabel}
use Rattle.bound_cert.specs.declared.cert.CertPart.{CertPart}
use Rattle.bound_cert.specs.declared.cert.CertRound.{CertRound}
use Rattle.cert_check.specs.declared.labels.RoundLabel.{RoundLabel}
use Rattle.flex_model.specs.declared.moment.Deadline.TheVariants.{At}
use Rattle.flex_model.specs.declared.place.Place.TheVariants.{Stop}
use Rattle.flex_model.specs.LabelTable.{IsInRound, Label}
use Rattle.flex_model.proofs.Found.{Contains-at, found_in_map, index_of, none_contained}
use Rattle.bound_cert.specs.Parts.{told_label, told_rounds}
use Rattle.cert_check.specs.Labels.{in_round, labels_from, labels_of}
use Rattle.cert_check.specs.Numbers.{IsNumber}

-- ---- images of lists

pub in_image : {A B : Type 0} (f : A → B) (xs : List A) (x : A) → Contains xs x → Contains (map f xs) (f x)
in_image f xs x c =
    let at = index_of xs x c in
    Contains-at (map f xs) at.0 (f x) (slice_get-map f xs at.0 ∙ ap (option_map f) at.1)

pub from_image : {A B : Type 0} (f : A → B) (xs : List A) (y : B) → Contains (map f xs) y → (x : A) × Contains xs x × (f x ≡ y)
from_image f xs y c =
    let at = index_of (map f xs) y c in
    let found = found_in_map f xs at.0 y at.1 in
    (found.0, Contains-at xs at.0 found.0 found.1, found.2)

-- ---- labels of rounds that are numbered from k on

-- a label of the list is one of a round
pub record IsOfRound (k : ℕ) (rounds : List CertRound) (label : RoundLabel) : Type 0 where
  pub index : ℕ
  pub round : CertRound
  pub at_index : slice_get rounds index ≡ Some round
  pub number : label.round ≡ k + index
  pub among : Contains round.labels label.label

pub of_round : (k : ℕ) (rounds : List CertRound) (label : RoundLabel) → Contains (labels_from k rounds) label → IsOfRound k rounds label
unfolding labels_from
of_round k [] label c = absurd (none_contained label c)
of_round k (round ∷ rounds) label c = elim (Contains-append_cases (map (in_round k) round.labels) (labels_from (k + 1) rounds) label c) [
  | inl here ↦ (
      let found = from_image (in_round k) round.labels label here in
      record {
        index = 0;
        round = round;
        at_index = refl;
        number = (let e = ap (λ (l : RoundLabel). l.round) (sym found.2) in omega (arith, e));
        among = subst (λ (l : RoundLabel). Contains round.labels l.label) found.2 found.1;
      })
  | inr there ↦ (
      let rest = of_round (k + 1) rounds label there in
      let n = rest.number in
      record { index = suc rest.index; round = rest.round; at_index = rest.at_index; number = omega arith; among = rest.among })
]

pub in_labels : (k : ℕ) (rounds : List CertRound) (i : ℕ) (round : CertRound) (label : CertLabel) → slice_get rounds i ≡ Some round
    → Contains round.labels label → Contains (labels_from k rounds) (in_round (k + i) label)
unfolding labels_from
in_labels k [] i round label e c = absurd (none-some round e)
in_labels k (first ∷ rounds) zero round label e c =
    let same : first ≡ round = same_Some first round e in
    let is : k + 0 ≡ k = omega arith in
    subst (λ n. Contains (map (in_round k) first.labels ++ labels_from (k + 1) rounds) (in_round n label)) (sym is)
    (Contains-append_left (map (in_round k) first.labels) (labels_from (k + 1) rounds) (in_round k label)
    (in_image (in_round k) first.labels label (subst (λ (r : CertRound). Contains r.labels label) (sym same) c)))
in_labels k (first ∷ rounds) (suc i) round label e c =
    let is : (k + 1) + i ≡ k + suc i = omega arith in
    subst (λ n. Contains (map (in_round k) first.labels ++ labels_from (k + 1) rounds) (in_round n label)) is
    (Contains-append_right (map (in_round k) first.labels) (labels_from (k + 1) rounds) (in_round ((k + 1) + i) label) (in_labels (k + 1) rounds i round label e c))

-- ---- the table of a part

abbrev labels_in : CertRound → List Label
labels_in round = map told_label round.labels

-- a label of the list is one of the table, in its round
pub in_table : (part : CertPart) (label : RoundLabel) → Contains (labels_of part) label → IsInRound (told_rounds part) label.round (told_label label.label)
in_table part label c =
    let of = of_round 1 part.rounds label c in
    let e : suc of.index ≡ label.round = (let n = of.number in omega arith) in
    subst (λ n. IsInRound (told_rounds part) n (told_label label.label)) e (
      labels_in of.round,
      slice_get-map labels_in part.rounds of.index ∙ ap (option_map labels_in) of.at_index,
      in_image told_label of.round.labels label.label of.among,
    )

-- a label of the table is one of the list
pub record IsListed (part : CertPart) (k : ℕ) (label : Label) : Type 0 where
  pub its : RoundLabel
  pub number : ℕ
  pub at_number : IsNumber (labels_of part) (suc number) its
  pub round : its.round ≡ k
  pub same : told_label its.label ≡ label

pub listed : (part : CertPart) (k : ℕ) (label : Label) → IsInRound (told_rounds part) k label → IsListed part k label
listed part zero label is = absurd is
listed part (suc k) label is =
    let round = found_in_map labels_in part.rounds k is.0 is.1 in
    let found = from_image told_label round.0.labels label (subst (λ labels. Contains labels label) (sym round.2) is.2) in
    let c = in_labels 1 part.rounds k round.0 found.0 round.1 found.1 in
    let at = index_of (labels_of part) (in_round (1 + k) found.0) c in
    record { its = in_round (1 + k) found.0; number = at.0; at_number = at.1; round = omega arith; same = found.2 }

-- rounds count from 1
pub round_some : (part : CertPart) (label : RoundLabel) → Contains (labels_of part) label → 0 < label.round
round_some part label c = (let n = (of_round 1 part.rounds label c).number in omega arith)

-- one round more at the end
pub labels_more : (k : ℕ) (rounds : List CertRound) (round : CertRound)
    → labels_from k (rounds ++ round ∷ []) ≡ labels_from k rounds ++ map (in_round (k + length rounds)) round.labels
unfolding labels_from
labels_more k [] round = (let e : k + 0 ≡ k = omega arith in append-nil (map (in_round k) round.labels) ∙ ap (λ n. map (in_round n) round.labels) (sym e))
labels_more k (first ∷ rounds) round =
    let e : (k + 1) + length rounds ≡ k + suc (length rounds) = omega arith in
    ap (λ xs. map (in_round k) first.labels ++ xs) (labels_more (k + 1) rounds round)
    ∙ sym (append_assoc (map (in_round k) first.labels) (labels_from (k + 1) rounds) (map (in_round ((k + 1) + length rounds)) round.labels))
    ∙ ap (λ n. (map (in_round k) first.labels ++ labels_from (k + 1) rounds) ++ map (in_round n) round.labels) e

-- the labels of one round more are added
pub labels_next : (rounds : List CertRound) (i : ℕ) (round : CertRound) → i < length rounds → round ≡ get_or rounds i round
    → (old new : List RoundLabel) → old ≡ labels_from 1 (take i rounds) → new ≡ old ++ map (in_round (i + 1)) round.labels
    → new ≡ labels_from 1 (take (i + 1) rounds)
labels_next rounds i round lt is old new e f =
    let few : length (take i rounds) ≡ i = length-take-le i rounds (omega arith) in
    let number : 1 + length (take i rounds) ≡ i + 1 = omega arith in
    let next : i + 1 ≡ suc i = omega arith in
    f ∙ ap (λ xs. xs ++ map (in_round (i + 1)) round.labels) e
    ∙ ap (λ n. labels_from 1 (take i rounds) ++ map (in_round n) round.labels) (sym number)
    ∙ sym (labels_more 1 (take i rounds) round)
    ∙ ap (λ r. labels_from 1 (take i rounds ++ r ∷ [])) is
    ∙ ap (labels_from 1) (sym (take-suc rounds i round lt))
    ∙ ap (λ n. labels_from 1 (take n rounds)) (sym next)

pub labels_none : [] ≡ labels_from 1 []
unfolding labels_from
labels_none = refl

-- what indexing past the end would give
abbrev pub no_label : RoundLabel
no_label = record { round = 0; label = record { place = Stop 0; deadline = At (pos 0); arrival = pos 0; walk = 0 } }

-- a label of the list, as code reads it
pub label_at : (part : CertPart) (labels : List RoundLabel) (i : ℕ) → labels ≡ labels_of part → i < length labels
    → slice_get (labels_of part) i ≡ Some (get_or labels i no_label)
label_at part labels i same lt = ap (λ xs. slice_get xs i) (sym same) ∙ slice_get-get_or labels i no_label lt

pub round_at : (part : CertPart) (labels : List RoundLabel) (i : ℕ) → labels ≡ labels_of part → i < length labels → 0 < (get_or labels i no_label).round
round_at part labels i same lt = round_some part (get_or labels i no_label) (Contains-at (labels_of part) i (get_or labels i no_label) (label_at part labels i same lt))
