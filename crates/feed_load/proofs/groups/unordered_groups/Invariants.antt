use Rattle.std.proofs.Common.{◌≡◌, map}
use Rattle.feed_tables.specs.Records.{header_of}
use Rattle.feed_load.specs.GroupMembers.{unordered_group}
use Rattle.feed_load.specs.TableValues.{values_in, values_under}
use Rattle.feed_load.proofs.groups.unordered_groups.Given as goal

abbrev pub invariant-loop-row : goal.invariant-loop-row
invariant-loop-row l = l.found.items ≡ map (unordered_group l.stop_ids (values_under (header_of l.pairs) l.yielded)) (values_in l.groups)
