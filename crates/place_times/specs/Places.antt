-- The ids by which the places of spans are found, and what two tables without faults make sure of.
use Rattle.std.specs.Prelude.{◌≡◌, ℕ, List, [], map, unwrap_or}
use Rattle.std.specs.List.{flat_map}
use Rattle.flex_model.specs.declared.fault.InputFile.{InputFile}
use Rattle.flex_model.specs.declared.feed.Feed.{Feed}
use Rattle.flex_model.specs.declared.place.Point.{Point}
use Rattle.flex_model.specs.declared.times.Span.{Span}
use Rattle.flex_model.specs.SoundFeed.{IsSoundFeed}
use Rattle.field_text.specs.Grammars.{count}
use Rattle.feed_meaning.specs.Rules.{Values}
use Rattle.feed_meaning.specs.Tables.{Entry, faults_at, record_faults}
use Rattle.feed_meaning.specs.TimesFaults.{span_links, span_rules}
use Rattle.feed_meaning.specs.TimesValue.{place_named}
use Rattle.place_times.specs.declared.places.PlaceIds.{PlaceIds}

-- the ids of the stops of a sound feed and of points, in their order
pub record ArePlaceIds (feed : Feed) (points : List Point) (ids : PlaceIds) : Type 0 where
  pub sound : IsSoundFeed feed
  pub feed_is : ids.feed.now ≡ feed
  pub stop_ids : ids.stops ≡ map (λ stop. stop.id) feed.stops
  pub point_ids : ids.points ≡ map (λ point. point.id) points

-- a span by the texts of its record; it takes no time where the text has no number up to the greatest one
abbrev pub span_by : Feed → List Point → ℕ → List ℕ → List ℕ → List ℕ → Span
span_by feed points most from to seconds =
    record {
      from = place_named feed points from;
      to = place_named feed points to;
      seconds =
          unwrap_or (count most seconds) 0;
    }

abbrev pub read_span : Feed → List Point → ℕ → Values → Span
read_span feed points most r = span_by feed points most (r "from_id") (r "to_id") (r "seconds")

-- the records of a table of spans have no faults, neither by themselves nor beside the feed and the points
pub record AreAcceptedSpans (feed : Feed) (points : List Values) (file : InputFile) (most : ℕ)
    (es : List Entry) : Type 0 where
  pub alone : record_faults file (span_rules most) es ≡ []
  pub linked : flat_map (λ e. faults_at file e.row (span_links feed points e.values)) es ≡ []
