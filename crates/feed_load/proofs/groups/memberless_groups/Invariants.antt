use Rattle.std.proofs.Common.{◌≡◌, [], map}
use Rattle.feed_tables.specs.Records.{header_of}
use Rattle.feed_load.specs.GroupMembers.{group_by}
use Rattle.feed_load.specs.TableValues.{values_under}
use Rattle.feed_load.proofs.groups.memberless_groups.Given as goal

abbrev pub invariant-loop-row : goal.invariant-loop-row
invariant-loop-row l = l.groups.items ≡ map (λ r. group_by (r "location_group_id") []) (values_under (header_of l.table) l.yielded)
