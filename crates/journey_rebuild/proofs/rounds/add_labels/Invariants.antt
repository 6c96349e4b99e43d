use Rattle.std.proofs.Common.{◌≡◌, ◌++◌, map, take}
use Rattle.bound_cert.specs.Parts.{told_label}
use Rattle.round_engine.specs.Flat.{label_of}
use Rattle.journey_rebuild.proofs.rounds.add_labels.Given as goal

abbrev pub invariant-loop-entry : goal.invariant-loop-entry
invariant-loop-entry l = map told_label l.into ≡ map told_label l.initial.into ++ map label_of (take l.entry-index l.entries)
