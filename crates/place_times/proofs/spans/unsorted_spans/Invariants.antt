use Rattle.std.proofs.Common.{◌≡◌, List, map}
use Rattle.flex_model.specs.declared.feed.Feed.{Feed}
use Rattle.flex_model.specs.declared.place.Point.{Point}
use Rattle.feed_tables.specs.Records.{header_of}
use Rattle.feed_meaning.specs.Tables.{entry_of}
use Rattle.place_times.specs.Places.{ArePlaceIds, read_span}
use Rattle.place_times.proofs.spans.unsorted_spans.Given as goal

abbrev pub invariant-loop-row : goal.invariant-loop-row
invariant-loop-row l =
    (feed : Feed) (points : List Point) → ArePlaceIds feed points l.ids
    → l.spans.items ≡ map (read_span feed points l.most) (map (λ e. e.values) (map (entry_of (header_of l.table)) l.yielded))
