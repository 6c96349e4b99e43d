-- Trips whose records are being gathered: they stand as in their files, and their times aren't
-- filled.
use Rattle.std.specs.Prelude.{◌≡◌, ℕ, List, [], ◌++◌, filter, map}
use Rattle.std.specs.Str.{bytes_eq}
use Rattle.flex_model.specs.SoundTimes.{AreIds}
use Rattle.flex_model.specs.declared.trip.Repeat.{Repeat}
use Rattle.feed_meaning.specs.Rules.{Values}
use Rattle.feed_load.specs.Columns.{place_among}
use Rattle.feed_load.specs.Drafts.{draft_of}
use Rattle.feed_load.specs.Repeats.{read_repeat}
use Rattle.feed_load.specs.declared.drafts.Draft.{Draft}
use Rattle.feed_load.specs.declared.named_ids.FeedIds.{FeedIds}
use Rattle.feed_load.specs.declared.open_trips.OpenTrip.{OpenTrip}

-- a trip without records, beside the ids of the services
abbrev pub empty_trip_by : List (List ℕ) → List ℕ → List ℕ → OpenTrip
empty_trip_by service_ids id service =
    record { id = id; service = place_among service_ids service; repeats = []; drafts = [] }

abbrev pub empty_trip : List (List ℕ) → Values → OpenTrip
empty_trip service_ids r = empty_trip_by service_ids (r "trip_id") (r "service_id")

-- a trip with these at the end of what it has
abbrev pub with_drafts : List Draft → OpenTrip → OpenTrip
with_drafts drafts trip = record trip { drafts = trip.drafts ++ drafts }

abbrev pub with_repeats : List Repeat → OpenTrip → OpenTrip
with_repeats repeats trip = record trip { repeats = trip.repeats ++ repeats }

-- those of the records that name the trip
abbrev pub of_trip : OpenTrip → List Values → List Values
of_trip trip records = filter (λ s. bytes_eq trip.id (s "trip_id")) records

-- a trip with its records of stop_times.txt
abbrev pub with_stop_times : FeedIds → List Values → OpenTrip → OpenTrip
with_stop_times ids stop_times trip =
    with_drafts (map (draft_of ids) (of_trip trip stop_times)) trip

-- and with those of frequencies.txt
abbrev pub with_frequencies : List Values → OpenTrip → OpenTrip
with_frequencies frequencies trip = with_repeats (map read_repeat (of_trip trip frequencies)) trip

-- the trip of a record of trips.txt with both
abbrev pub open_trip : FeedIds → List Values → List Values → Values → OpenTrip
open_trip ids frequencies stop_times r =
    with_frequencies frequencies (with_stop_times ids stop_times (empty_trip ids.services r))

-- the ids are those of the trips, and no id stands twice
pub record AreTripIds (ids : List (List ℕ)) (trips : List OpenTrip) : Type 0 where
  pub are : ids ≡ map (λ trip. trip.id) trips
  pub distinct : AreIds ids
