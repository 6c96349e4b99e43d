-- Rounds of a search, and what a certificate tells of them. This project's own.
use Rattle.std.specs.Prelude.{ℕ, List, map}
use Rattle.bound_cert.specs.declared.cert.CertRound.{CertRound}
use Rattle.bound_cert.specs.Parts.{told_label}
use Rattle.flex_model.specs.LabelTable.{Label}
use Rattle.label_bag.specs.Bag.{IsBag}
use Rattle.round_engine.specs.Bags.{Entry, bag_at}

-- what rounds tell
abbrev pub are_told : List CertRound → List (List Label)
are_told rounds = map (λ round. map told_label round.labels) rounds

-- the labels at each place stand in the order of a bag
abbrev pub AreBagsOf : List (List Entry) → Type 0
AreBagsOf bags = (i : ℕ) → IsBag (bag_at bags i)
