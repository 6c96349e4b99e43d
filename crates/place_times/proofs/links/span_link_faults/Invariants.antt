use Rattle.std.proofs.Common.{◌≡◌, List, map}
use Rattle.std.specs.List.{flat_map}
use Rattle.flex_model.specs.declared.feed.Feed.{Feed}
use Rattle.feed_tables.specs.Records.{header_of}
use Rattle.feed_meaning.specs.Rules.{Values}
use Rattle.feed_meaning.specs.Tables.{entry_of, faults_at}
use Rattle.feed_meaning.specs.TimesFaults.{span_links}
use Rattle.feed_meaning.specs.TimesValue.{point_of}
use Rattle.place_times.specs.Places.{ArePlaceIds}
use Rattle.place_times.proofs.links.span_link_faults.Given as goal

abbrev pub invariant-loop-row : goal.invariant-loop-row
invariant-loop-row l =
    (feed : Feed) (points : List Values) → ArePlaceIds feed (map point_of points) l.ids
    → l.faults ≡ flat_map (λ e. faults_at l.file e.row (span_links feed points e.values)) (map (entry_of (header_of l.table)) l.yielded)
