-- The files of the demo: the feed in the folder `feed`, the times in `times`, and the queries.
use Rattle.std.specs.Prelude.{ℕ, List, [], ◌∷◌, ◌++◌, codes, fold}
use Rattle.std.specs.FinMap as map
use Rattle.std.specs.FinSet as set
use Rattle.flex_io.specs.Memory.{MemoryFiles}
use Rattle.flex_io.specs.Outside.{FileMap}
use Rattle.feed_gen.specs.FeedTexts.{agency_text, booking_rules_text, calendar_text, locations_text, routes_text, stops_text, transfers_text, trips_text}
use Rattle.feed_gen.specs.QueriesText.{queries_text}
use Rattle.feed_gen.specs.StopTimesText.{stop_times_text}
use Rattle.feed_gen.specs.TimesTexts.{direct_text, points_text, walks_text, zone_text}

-- the tables of trips, and what they name
abbrev pub trip_texts : ℕ → List (List ℕ × List ℕ)
trip_texts number =
    (codes "feed/agency.txt", agency_text)
    ∷ (codes "feed/stops.txt", stops_text)
    ∷ (codes "feed/routes.txt", routes_text)
    ∷ (codes "feed/trips.txt", trips_text)
    ∷ (codes "feed/stop_times.txt", stop_times_text number)
    ∷ []

-- the other files of the feed
abbrev pub other_texts : List (List ℕ × List ℕ)
other_texts =
    (codes "feed/calendar.txt", calendar_text)
    ∷ (codes "feed/locations.geojson", locations_text)
    ∷ (codes "feed/booking_rules.txt", booking_rules_text)
    ∷ (codes "feed/transfers.txt", transfers_text)
    ∷ []

abbrev pub times_texts : List (List ℕ × List ℕ)
times_texts =
    (codes "times/zone.txt", zone_text)
    ∷ (codes "times/points.txt", points_text)
    ∷ (codes "times/direct.txt", direct_text)
    ∷ (codes "times/walks.txt", walks_text)
    ∷ []

-- each path of the demo with its text
abbrev pub demo_texts : ℕ → List (List ℕ × List ℕ)
demo_texts number =
    trip_texts number ++ other_texts ++ times_texts ++ (codes "queries", queries_text number) ∷ []

-- files with further texts at their paths
unfoldable pub with_texts : FileMap → List (List ℕ × List ℕ) → FileMap
with_texts files texts = fold (λ files file. map.insert files file.0 file.1) files texts

-- the files of the demo, and no others
unfoldable pub demo_files : ℕ → FileMap
demo_files number = with_texts map.empty (demo_texts number)

-- the files in memory, of which none was fetched yet, and no fetch will fail
abbrev pub demo_memory : ℕ → MemoryFiles
demo_memory number = record {
  files = demo_files number;
  failing = set.empty;
  calls = 0;
  faults = 0;
}
