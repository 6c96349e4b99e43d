use Rattle.std.proofs.Common.{◌≡◌, List, map}
use Rattle.std.specs.List.{flat_map}
use Rattle.flex_model.specs.declared.fault.InputFile.TheVariants as Files
use Rattle.flex_model.specs.declared.feed.Feed.{Feed}
use Rattle.flex_model.specs.declared.place.Point.{Point}
use Rattle.feed_tables.specs.Records.{header_of}
use Rattle.feed_meaning.specs.Tables.{entry_of, faults_at}
use Rattle.feed_meaning.specs.TimesFaults.{point_links}
use Rattle.place_times.specs.Places.{ArePlaceIds}
use Rattle.place_times.proofs.links.point_link_faults.Given as goal

abbrev pub invariant-loop-row : goal.invariant-loop-row
invariant-loop-row l =
    (feed : Feed) (points : List Point) → ArePlaceIds feed points l.ids
    → l.faults ≡ flat_map (λ e. faults_at Files.Points e.row (point_links feed e.values)) (map (entry_of (header_of l.table)) l.yielded)
