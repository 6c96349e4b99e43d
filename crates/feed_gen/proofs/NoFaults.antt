-- The demo's files have no fault as they are fetched.
use Rattle.std.proofs.Common.{◌≡◌, ◌∙◌, ℕ, List, ap, refl}
use Rattle.flex_model.specs.declared.feed.Feed.{Feed}
use Rattle.feed_meaning.specs.FeedFaults.{feed_faults}
use Rattle.feed_meaning.specs.FeedValue.{feed_of}
use Rattle.feed_meaning.specs.Folder.{Folder}
use Rattle.feed_meaning.specs.Locations.{Scan, zones_of}
use Rattle.feed_meaning.specs.QueryFaults.{query_faults}
use Rattle.feed_meaning.specs.TimesFaults.{times_faults}
use Rattle.feed_meaning.specs.TimesValue.{times_of}
use Rattle.json_text.specs.Grammar.{TextsAreUnambiguous}
use Rattle.feed_gen.specs.Laws.{DemoFeedsHaveNoFaults, DemoQueriesHaveNoFaults, DemoTimesHaveNoFaults, demo_feed, demo_feed_folder, demo_times, demo_times_folder}
use Rattle.feed_gen.proofs.DemoTables.{values_in}
use Rattle.feed_gen.proofs.DemoZones.{reads_zones}
use Rattle.feed_gen.proofs.FeedFolder.{feed_folder, no_feed_faults}
use Rattle.feed_gen.proofs.QueryTable.{demo_points, no_query_faults}
use Rattle.feed_gen.proofs.TimesFolder.{demo_stops, no_times_faults, times_folder}
use Rattle.feed_gen.proofs.ToldFiles.{told_feed, told_queries, told_times}

same-feed : (number : ℕ) → demo_feed_folder number ≡ feed_folder number
same-feed number = λ i f. told_feed number f i

same-times : (number : ℕ) → demo_times_folder number ≡ times_folder
same-times number = λ i f. told_times number f i

pub demo_feeds : TextsAreUnambiguous → DemoFeedsHaveNoFaults
demo_feeds alike number scan is =
    ap (λ (folder : Folder). feed_faults (zones_of scan) folder) (same-feed number)
    ∙ no_feed_faults (zones_of scan) number (reads_zones alike scan is)

feed-stops : (number : ℕ) (scan : List ℕ → Scan) → (feed_of (zones_of scan) (feed_folder number)).stops ≡ demo_stops
unfolding values_in
feed-stops number scan = refl

stops : (number : ℕ) (scan : List ℕ → Scan) → (demo_feed scan number).stops ≡ demo_stops
stops number scan = ap (λ (folder : Folder). (feed_of (zones_of scan) folder).stops) (same-feed number) ∙ feed-stops number scan

pub demo_times_folders : DemoTimesHaveNoFaults
demo_times_folders number scan is_bad_zone good =
    ap (λ (folder : Folder). times_faults is_bad_zone (demo_feed scan number) folder) (same-times number)
    ∙ no_times_faults (demo_feed scan number) (stops number scan) is_bad_zone good

times-points : (feed : Feed) → (times_of feed times_folder).points ≡ demo_points
unfolding values_in
times-points feed = refl

points : (number : ℕ) (scan : List ℕ → Scan) → (demo_times scan number).points ≡ demo_points
points number scan =
    ap (λ (folder : Folder). (times_of (demo_feed scan number) folder).points) (same-times number) ∙ times-points (demo_feed scan number)

pub demo_queries : DemoQueriesHaveNoFaults
demo_queries number scan =
    ap (query_faults (demo_feed scan number) (demo_times scan number)) (told_queries number)
    ∙ no_query_faults (demo_feed scan number) (demo_times scan number) (stops number scan) (points number scan) number
