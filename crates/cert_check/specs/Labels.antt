-- The labels of a part, in one list: those of the first round, then those of the second one, and
-- so on, each with its round. Rounds count from 1. This project's own.
use Rattle.std.specs.Prelude.{◌≡◌, ℕ, ◌+◌, ◌≤◌, List, [], ◌∷◌, ◌++◌, Contains, map}
use Rattle.bound_cert.specs.Parts.{told_label}
use Rattle.bound_cert.specs.declared.cert.CertLabel.{CertLabel}
use Rattle.bound_cert.specs.declared.cert.CertPart.{CertPart}
use Rattle.bound_cert.specs.declared.cert.CertRound.{CertRound}
use Rattle.cert_check.specs.declared.labels.RoundLabel.{RoundLabel}
use Rattle.flex_model.specs.declared.answer.Pair.{Pair}
use Rattle.flex_model.specs.declared.place.Place.{Place}
use Rattle.flex_model.specs.LabelTable.{pair_of}
use Rattle.flex_model.specs.Triple.{CoversPair}

-- the label, with its round
abbrev pub in_round : ℕ → CertLabel → RoundLabel
in_round k label = record { round = k; label = label }

-- the labels of rounds that are numbered from k on, each with its round
unfoldable pub labels_from : ℕ → List CertRound → List RoundLabel
labels_from k [] = []
labels_from k (round ∷ rounds) = map (in_round k) round.labels ++ labels_from (k + 1) rounds

-- all labels of the part
abbrev pub labels_of : CertPart → List RoundLabel
labels_of part = labels_from 1 part.rounds

-- one of these labels is of the place and of a round up to k, and covers the pair
pub record IsHeldAmong (labels : List RoundLabel) (place : Place) (pair : Pair) (k : ℕ) : Type 0
  where
    pub label : RoundLabel
    pub among : Contains labels label
    pub early : label.round ≤ k
    pub at_place : label.label.place ≡ place
    pub covers : CoversPair (pair_of (told_label label.label)) pair

-- one of these labels is of a round up to k, and covers the pair
pub record IsAmong (labels : List RoundLabel) (pair : Pair) (k : ℕ) : Type 0 where
  pub label : RoundLabel
  pub among : Contains labels label
  pub early : label.round ≤ k
  pub covers : CoversPair (pair_of (told_label label.label)) pair
