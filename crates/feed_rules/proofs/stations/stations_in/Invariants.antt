use Rattle.std.proofs.Common.{map}
use Rattle.feed_tables.specs.Records.{header_of}
use Rattle.feed_meaning.specs.Tables.{entry_of}
use Rattle.feed_rules.proofs.StationFacts.{AreStations}
use Rattle.feed_rules.proofs.stations.stations_in.Given as goal

abbrev pub invariant-loop-row : goal.invariant-loop-row
invariant-loop-row l = AreStations l.ids (map (λ x. x.values) (map (entry_of (header_of l.stops)) l.yielded))
