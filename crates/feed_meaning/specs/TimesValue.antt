-- The times of an accepted times folder, and the queries of an accepted query file.
use Rattle.std.specs.Prelude.{ℕ, Bool, ℤ, pos, if◌then◌else◌, List, map, unwrap_or}
use Rattle.std.specs.Ordering.{is_lt}
use Rattle.std.specs.Str.{bytes_eq}
use Rattle.feed_tables.specs.Records.{table_records}
use Rattle.flex_model.specs.declared.fault.InputFile.{InputFile}
use Rattle.flex_model.specs.declared.fault.InputFile.TheVariants.{Points, Direct, Walks}
use Rattle.flex_model.specs.declared.fault.RawFile.{RawFile}
use Rattle.flex_model.specs.declared.feed.Feed.{Feed}
use Rattle.flex_model.specs.declared.place.Place.{Place}
use Rattle.flex_model.specs.declared.place.Place.TheVariants as place
use Rattle.flex_model.specs.declared.place.Point.{Point}
use Rattle.flex_model.specs.declared.query.Query.{Query}
use Rattle.flex_model.specs.declared.times.Span.{Span}
use Rattle.flex_model.specs.declared.times.Times.{Times}
use Rattle.flex_model.specs.Times.{span_cmp}
use Rattle.feed_meaning.specs.FeedValue.{coordinate, first_index, rising}
use Rattle.feed_meaning.specs.Folder.{Folder, bytes_of, entries}
use Rattle.field_text.specs.Grammars.{moment, number}
use Rattle.feed_meaning.specs.Rules.{Values, is_text}
use Rattle.feed_meaning.specs.Tables.{entries_of}
use Rattle.feed_meaning.specs.TimesFaults.{is_stop}

abbrev pub point_of : Values → Point
point_of r = record {
  id = r "point_id";
  at = record { lon = coordinate 180 (r "point_lon"); lat = coordinate 90 (r "point_lat") };
}

-- the stop or the point with this id
abbrev pub place_named : Feed → List Point → List ℕ → Place
place_named feed points text =
    if is_stop feed text then place.Stop (first_index (λ stop. bytes_eq text stop.id) feed.stops)
    else place.Point (first_index (λ point. bytes_eq text point.id) points)

abbrev pub span_of : Feed → List Point → Values → Span
span_of feed points r = record {
  from = place_named feed points (r "from_id");
  to = place_named feed points (r "to_id");
  seconds = number (r "seconds");
}

-- by where they begin, and then by where they end
abbrev pub span_before : Span → Span → Bool
span_before x y = is_lt (span_cmp y.from y.to x)

abbrev pub values : Folder → InputFile → List Values
values folder file = map (λ e. e.values) (entries folder file)

-- the times of a folder
abbrev pub times_of : Feed → Folder → Times
times_of feed folder =
    let points = map point_of (values folder Points) in
    record {
      points = points;
      direct = rising span_before (map (span_of feed points) (values folder Direct));
      walks = rising span_before (map (span_of feed points) (values folder Walks));
    }

abbrev pub moment_in : List ℕ → ℤ
moment_in text = unwrap_or (moment 1990 2199 text) (pos 0)

-- a query asks for walking where its record says 1
abbrev pub query_of : Feed → Times → Values → Query
query_of feed times r = record {
  id = r "query_id";
  origin = place_named feed times.points (r "origin");
  destination = place_named feed times.points (r "destination");
  depart = moment_in (r "depart");
  now = moment_in (r "now");
  transfers = number (r "transfers");
  horizon = number (r "horizon");
  walking = is_text (r "walking") "1";
}

-- the queries of a query file
abbrev pub queries_of : Feed → Times → RawFile → List Query
queries_of feed times raw =
    map (λ e. query_of feed times e.values) (entries_of (table_records (bytes_of raw)))
