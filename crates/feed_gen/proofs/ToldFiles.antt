-- What fetching the demo's files gives.
use Rattle.std.proofs.Common.{◌≡◌, ◌∙◌, ℕ, false, List, [], ◌∷◌, Option, None, Some, ap, cond, length, refl}
use Rattle.std.specs.Prelude.{codes, fold, nat_lt}
use Rattle.std.specs.Cmp.Lexicographic.{nat_list_cmp_total, slice_cmp}
use Rattle.std.specs.FinMap as map
use Rattle.std.specs.FinMap.{get-empty, get-insert}
use Rattle.std.specs.Ordering.{eq_by_cmp, nat_cmp}
use Rattle.flex_io.specs.Outside.{FileMap, bytes_at}
use Rattle.flex_model.specs.declared.fault.InputFile.{InputFile}
use Rattle.flex_model.specs.declared.fault.InputFile.TheVariants as file
use Rattle.flex_model.specs.declared.fault.RawFile.TheVariants.{Bytes}
use Rattle.feed_meaning.specs.Files.{byte_limit, raw_of}
use Rattle.feed_meaning.specs.Told.{path_in, told_folder}
use Rattle.feed_gen.specs.DemoFiles.{demo_files, demo_texts, with_texts}
use Rattle.feed_gen.specs.FeedTexts.{agency_text, booking_rules_text, calendar_text, locations_text, routes_text, stops_text, transfers_text, trips_text}
use Rattle.feed_gen.specs.Laws.{demo_feed_folder, demo_query_file, demo_times_folder}
use Rattle.feed_gen.specs.QueriesText.{queries_text}
use Rattle.feed_gen.specs.StopTimesText.{stop_times_text}
use Rattle.feed_gen.specs.TimesTexts.{direct_text, point_drives, points_text, stop_drives, walks_text, zone_text}
use Rattle.feed_gen.proofs.FeedFolder.{feed_folder}
use Rattle.feed_gen.proofs.SmallTables.{demo_on_literals}
use Rattle.feed_gen.proofs.TextLengths.{queries-limit, stop_times-limit}
use Rattle.feed_gen.proofs.TimesFolder.{times_folder}

-- the last text of a path
abbrev last_text : List ℕ → Option (List ℕ) → List (List ℕ × List ℕ) → Option (List ℕ)
last_text path found texts = fold (λ found text. cond (eq_by_cmp (slice_cmp nat_cmp) path text.0) (Some text.1) found) found texts

text-at : (files : FileMap) (texts : List (List ℕ × List ℕ)) (path : List ℕ)
    → bytes_at (with_texts files texts) path ≡ last_text path (bytes_at files path) texts
unfolding with_texts
text-at files [] path = refl
text-at files (text ∷ texts) path =
    text-at (map.insert files text.0 text.1) texts path
    ∙ ap (λ found. last_text path found texts) (get-insert nat_list_cmp_total files text.0 text.1 path)

demo-at : (number : ℕ) (path : List ℕ) → bytes_at (demo_files number) path ≡ last_text path None (demo_texts number)
unfolding demo_files
demo-at number path =
    text-at map.empty (demo_texts number) path
    ∙ ap (λ found. last_text path found (demo_texts number)) (get-empty (slice_cmp nat_cmp) path)

-- a file that is within its limit
fetched : (limit : ℕ) (text : List ℕ) → nat_lt limit (length text) ≡ false → raw_of limit (Some text) ≡ Bytes text
fetched limit text within = rw within refl

agency-limit : nat_lt 67108864 (length agency_text) ≡ false
unfolding demo_on_literals
agency-limit = refl

stops-limit : nat_lt 67108864 (length stops_text) ≡ false
unfolding demo_on_literals
stops-limit = refl

routes-limit : nat_lt 67108864 (length routes_text) ≡ false
unfolding demo_on_literals
routes-limit = refl

trips-limit : nat_lt 67108864 (length trips_text) ≡ false
unfolding demo_on_literals
trips-limit = refl

calendar-limit : nat_lt 67108864 (length calendar_text) ≡ false
unfolding demo_on_literals
calendar-limit = refl

locations-limit : nat_lt 67108864 (length locations_text) ≡ false
unfolding locations_text
locations-limit = refl

booking_rules-limit : nat_lt 67108864 (length booking_rules_text) ≡ false
unfolding demo_on_literals
booking_rules-limit = refl

transfers-limit : nat_lt 67108864 (length transfers_text) ≡ false
unfolding demo_on_literals
transfers-limit = refl

zone-limit : nat_lt 1048576 (length zone_text) ≡ false
unfolding zone_text
zone-limit = refl

points-limit : nat_lt 67108864 (length points_text) ≡ false
unfolding demo_on_literals
points-limit = refl

direct-limit : nat_lt 268435456 (length direct_text) ≡ false
unfolding demo_on_literals direct_text stop_drives point_drives
direct-limit = refl

walks-limit : nat_lt 67108864 (length walks_text) ≡ false
unfolding demo_on_literals
walks-limit = refl

-- the bytes of a file in its folder
at : (number : ℕ) (folder : List ℕ) (f : InputFile) (text : List ℕ) → last_text (path_in folder f) None (demo_texts number) ≡ Some text
    → nat_lt (byte_limit f) (length text) ≡ false → told_folder (demo_files number) folder f ≡ Bytes text
at number folder f text found within =
    ap (raw_of (byte_limit f)) (demo-at number (path_in folder f) ∙ found) ∙ fetched (byte_limit f) text within

pub told_feed : (number : ℕ) (f : InputFile) → demo_feed_folder number f ≡ feed_folder number f
told_feed number file.Agency = at number (codes "feed") file.Agency agency_text refl agency-limit
told_feed number file.Stops = at number (codes "feed") file.Stops stops_text refl stops-limit
told_feed number file.Routes = at number (codes "feed") file.Routes routes_text refl routes-limit
told_feed number file.Trips = at number (codes "feed") file.Trips trips_text refl trips-limit
told_feed number file.StopTimes = at number (codes "feed") file.StopTimes (stop_times_text number) refl (stop_times-limit number)
told_feed number file.Calendar = at number (codes "feed") file.Calendar calendar_text refl calendar-limit
told_feed number file.Locations = at number (codes "feed") file.Locations locations_text refl locations-limit
told_feed number file.BookingRules = at number (codes "feed") file.BookingRules booking_rules_text refl booking_rules-limit
told_feed number file.Transfers = at number (codes "feed") file.Transfers transfers_text refl transfers-limit
told_feed number f = ap (raw_of (byte_limit f)) (demo-at number (path_in (codes "feed") f))

pub told_times : (number : ℕ) (f : InputFile) → demo_times_folder number f ≡ times_folder f
told_times number file.ZoneText = at number (codes "times") file.ZoneText zone_text refl zone-limit
told_times number file.Points = at number (codes "times") file.Points points_text refl points-limit
told_times number file.Direct = at number (codes "times") file.Direct direct_text refl direct-limit
told_times number file.Walks = at number (codes "times") file.Walks walks_text refl walks-limit
told_times number f = ap (raw_of (byte_limit f)) (demo-at number (path_in (codes "times") f))

pub told_queries : (number : ℕ) → demo_query_file number ≡ Bytes (queries_text number)
told_queries number =
    ap (raw_of (byte_limit file.Queries)) (demo-at number (codes "queries")) ∙ fetched (byte_limit file.Queries) (queries_text number) (queries-limit number)
