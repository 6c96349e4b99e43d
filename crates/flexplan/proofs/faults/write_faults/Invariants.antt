use Rattle.std.proofs.Common.{◌≡◌, take}
use Rattle.flexplan.specs.Faults.{text_of}
use Rattle.flexplan.proofs.faults.write_faults.Given as goal

abbrev pub invariant-loop-fault : goal.invariant-loop-fault
invariant-loop-fault l = l.text ≡ text_of (take l.fault-index l.faults)
