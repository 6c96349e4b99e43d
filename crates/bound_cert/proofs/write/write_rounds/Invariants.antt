use Rattle.std.proofs.Common.{◌≡◌, ◌++◌, take}
use Rattle.bound_cert.specs.CertText.{rounds_text}
use Rattle.bound_cert.proofs.write.write_rounds.Given as goal

abbrev pub invariant-loop-i : goal.invariant-loop-i
invariant-loop-i l = l.into ≡ l.initial.into ++ rounds_text l.feed l.times l.walking 1 (take l.i l.rounds)
