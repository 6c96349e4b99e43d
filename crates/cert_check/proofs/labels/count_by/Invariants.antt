use Rattle.std.proofs.Common.{◌≡◌, ◌≤◌, true}
use Rattle.std.specs.List.{AllWithin}
use Rattle.cert_check.specs.Places.{stands_by}
use Rattle.cert_check.proofs.labels.count_by.Given as goal

abbrev pub invariant-loop-at : goal.invariant-loop-at
invariant-loop-at l = (l.before ≤ l.at) × AllWithin (λ label. stands_by l.place label ≡ true) l.labels 0 l.at
