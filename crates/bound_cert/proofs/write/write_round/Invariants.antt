use Rattle.std.proofs.Common.{◌≡◌, ◌++◌, take}
use Rattle.std.specs.List.{flat_map}
use Rattle.bound_cert.specs.CertText.{label_line}
use Rattle.bound_cert.proofs.write.write_round.Given as goal

abbrev pub invariant-loop-label : goal.invariant-loop-label
invariant-loop-label l = l.into ≡ l.initial.into ++ flat_map (label_line l.feed l.times l.walking) (take l.label-index l.labels)
