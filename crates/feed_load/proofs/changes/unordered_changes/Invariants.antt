use Rattle.std.proofs.Common.{◌≡◌, All, map}
use Rattle.std.specs.Prelude.{filter}
use Rattle.feed_tables.specs.Records.{header_of}
use Rattle.feed_meaning.specs.FeedLinks.{Tables}
use Rattle.feed_meaning.specs.FeedValue.{change_of, is_change}
use Rattle.feed_load.specs.ChangeTables.{AreStopsOf, HasSoundSeconds}
use Rattle.feed_load.specs.TableValues.{values_under}
use Rattle.feed_load.proofs.changes.unordered_changes.Given as goal

abbrev pub invariant-loop-row : goal.invariant-loop-row
invariant-loop-row l =
    (tables : Tables) → AreStopsOf l.stops l.stop_ids tables → All HasSoundSeconds (values_under (header_of l.transfers) l.yielded)
    → l.changes.items ≡ map (change_of tables) (filter (is_change tables) (values_under (header_of l.transfers) l.yielded))
