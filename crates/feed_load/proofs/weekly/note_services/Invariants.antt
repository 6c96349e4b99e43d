use Rattle.std.proofs.Common.{◌≡◌, fold, map}
use Rattle.feed_tables.specs.Records.{header_of}
use Rattle.feed_meaning.specs.Noted.{noted}
use Rattle.feed_load.specs.TableValues.{values_under}
use Rattle.feed_load.proofs.weekly.note_services.Given as goal

abbrev pub invariant-loop-row : goal.invariant-loop-row
invariant-loop-row l = l.ids ≡ fold noted l.initial.ids (map (λ r. r "service_id") (values_under (header_of l.table) l.yielded))
