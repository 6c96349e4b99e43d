use Rattle.std.proofs.Common.{◌≡◌, ◌+◌, ◌≤◌, take}
use Rattle.std.specs.Prelude.{count_by, nat_eq}
use Rattle.feed_rules.proofs.zones.row_at.Given as goal

abbrev pub invariant-loop-byte : goal.invariant-loop-byte
invariant-loop-byte l = (l.row ≡ 1 + count_by (nat_eq 10) (take l.byte-index l.byte-items)) × (l.row ≤ 1 + l.byte-index)
