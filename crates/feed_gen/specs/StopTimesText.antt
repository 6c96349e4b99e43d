-- The stop times of the demo feed, this project's own. What the feed's number draws is where its
-- trips stop, and the minute at which those of a route leave.
use Rattle.std.specs.Prelude.{ℕ, ◌+◌, ◌*◌, List, [], ◌∷◌, ◌++◌, codes, decimal, map}
use Rattle.std.specs.List.{flat_map}
use Rattle.field_text.specs.Texts.{clock_text}
use Rattle.feed_gen.specs.Draws.{pick}
use Rattle.feed_gen.specs.Ids.{stop_id, trip_id}
use Rattle.feed_gen.specs.Texts.{below, table_text}
use Prim.Native.String.{String}

-- the stop of the place v of a trip on the route l
abbrev pub stop_of : ℕ → ℕ → ℕ → ℕ
stop_of number l v = pick number (10 * l + v) 40

-- when the trip k on the route l is there, in seconds of the service day
unfoldable pub seconds_at : ℕ → ℕ → ℕ → ℕ → ℕ
seconds_at number l k v = 21600 + 1800 * k + 60 * pick number (500 + l) 30 + 300 * v

-- a time of the service day as HH:MM:SS
unfoldable pub time_text : ℕ → List ℕ
time_text seconds = clock_text seconds

-- a trip at a place that is a stop, with its id and its time
abbrev pub timed_record : List ℕ → ℕ → List ℕ → List ℕ → List (List ℕ)
timed_record trip sequence stop time =
    trip ∷ decimal sequence ∷ stop ∷ [] ∷ time ∷ time ∷ [] ∷ [] ∷ [] ∷ [] ∷ [] ∷ [] ∷ []

-- the trip k on the route l at its place v
abbrev pub fixed_record : ℕ → ℕ → ℕ → ℕ → List (List ℕ)
fixed_record number l k v =
    timed_record (trip_id l k) v (stop_id (stop_of number l v))
    (time_text (seconds_at number l k v))

-- a trip on demand at its first place, where it picks up, and at its second, where it drops off
abbrev pub zone_records : List ℕ → List ℕ → List ℕ → List (List (List ℕ))
zone_records trip zone rule =
    (trip ∷ codes "1" ∷ [] ∷ zone ∷ [] ∷ [] ∷ codes "07:00:00" ∷ codes "19:00:00"
    ∷ codes "2" ∷ codes "1" ∷ rule ∷ [] ∷ [])
    ∷ (trip ∷ codes "2" ∷ [] ∷ zone ∷ [] ∷ [] ∷ codes "07:00:00" ∷ codes "19:00:00"
    ∷ codes "1" ∷ codes "2" ∷ [] ∷ rule ∷ [])
    ∷ []

-- both trips on demand
abbrev pub zone_stop_times : List (List (List ℕ))
zone_stop_times =
    zone_records (codes "za") (codes "zA") (codes "b1")
    ++ zone_records (codes "zb") (codes "zB") (codes "b2")

unfoldable pub stop_time_records : ℕ → List (List (List ℕ))
stop_time_records number =
    flat_map (λ l. flat_map (λ k. map (λ v. fixed_record number l k v) (below 8)) (below 24))
    (below 10)
    ++ zone_stop_times

abbrev pub stop_time_columns : List String
stop_time_columns =
    "trip_id" ∷ "stop_sequence" ∷ "stop_id" ∷ "location_id" ∷ "arrival_time" ∷ "departure_time"
    ∷ "start_pickup_drop_off_window" ∷ "end_pickup_drop_off_window" ∷ "pickup_type"
    ∷ "drop_off_type" ∷ "pickup_booking_rule_id" ∷ "drop_off_booking_rule_id" ∷ []

unfoldable pub stop_times_text : ℕ → List ℕ
stop_times_text number = table_text stop_time_columns (stop_time_records number)
