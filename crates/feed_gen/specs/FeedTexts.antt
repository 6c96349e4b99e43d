-- The files of the demo feed but for its stop times, this project's own. Forty stops stand in five
-- rows of eight; ten routes have 24 trips each, and the first one two trips on demand, each in a
-- zone of its own.
use Rattle.std.specs.Prelude.{ℕ, ◌+◌, ◌/◌, ◌%◌, ◌==◌, not, List, [], ◌∷◌, ◌++◌, codes, decimal, filter, map}
use Rattle.std.specs.List.{flat_map}
use Rattle.feed_gen.specs.Ids.{route_id, stop_id, trip_id}
use Rattle.feed_gen.specs.Texts.{below, table_text}

unfoldable pub agency_text : List ℕ
agency_text =
    table_text ("agency_name" ∷ "agency_url" ∷ "agency_timezone" ∷ [])
    ((codes "Demo" ∷ codes "http://localhost/" ∷ codes "UTC" ∷ []) ∷ [])

-- the stop i, in the row i / 8
abbrev pub stop_record : ℕ → List (List ℕ)
stop_record i =
    stop_id i ∷ (codes "50.0" ++ decimal (i / 8)) ∷ (codes "5.0" ++ decimal (i % 8)) ∷ []

unfoldable pub stop_records : List (List (List ℕ))
stop_records = map stop_record (below 40)

unfoldable pub stops_text : List ℕ
stops_text = table_text ("stop_id" ∷ "stop_lat" ∷ "stop_lon" ∷ []) stop_records

abbrev pub route_record : ℕ → List (List ℕ)
route_record l = route_id l ∷ []

unfoldable pub route_records : List (List (List ℕ))
route_records = map route_record (below 10)

unfoldable pub routes_text : List ℕ
routes_text = table_text ("route_id" ∷ []) route_records

-- the trip k on the route l
abbrev pub trip_record : ℕ → ℕ → List (List ℕ)
trip_record l k = route_id l ∷ codes "d" ∷ trip_id l k ∷ []

-- both trips on demand
abbrev pub zone_trip_records : List (List (List ℕ))
zone_trip_records =
    (codes "r0" ∷ codes "d" ∷ codes "za" ∷ [])
    ∷ (codes "r0" ∷ codes "d" ∷ codes "zb" ∷ [])
    ∷ []

unfoldable pub trip_records : List (List (List ℕ))
trip_records =
    flat_map (λ l. map (λ k. trip_record l k) (below 24)) (below 10) ++ zone_trip_records

unfoldable pub trips_text : List ℕ
trips_text = table_text ("route_id" ∷ "service_id" ∷ "trip_id" ∷ []) trip_records

-- every day of two years
unfoldable pub calendar_text : List ℕ
calendar_text =
    table_text
    ("service_id" ∷ "monday" ∷ "tuesday" ∷ "wednesday" ∷ "thursday" ∷ "friday" ∷ "saturday"
    ∷ "sunday" ∷ "start_date" ∷ "end_date" ∷ [])
    ((codes "d" ∷ codes "1" ∷ codes "1" ∷ codes "1" ∷ codes "1" ∷ codes "1" ∷ codes "1"
    ∷ codes "1" ∷ codes "20250101" ∷ codes "20261231" ∷ [])
    ∷ [])

-- Both zones are closed rectangles, from the south-west corner counter-clockwise (RFC 7946).
unfoldable pub locations_text : List ℕ
locations_text =
    codes "{\"type\":\"FeatureCollection\",\"features\":[\n"
    ++ codes "{\"type\":\"Feature\",\"id\":\"zA\",\"properties\":{},"
    ++ codes "\"geometry\":{\"type\":\"Polygon\",\"coordinates\":[["
    ++ codes "[4.995,49.995],[5.035,49.995],[5.035,50.025],[4.995,50.025],[4.995,49.995]]]}},\n"
    ++ codes "{\"type\":\"Feature\",\"id\":\"zB\",\"properties\":{},"
    ++ codes "\"geometry\":{\"type\":\"Polygon\",\"coordinates\":[["
    ++ codes "[5.025,50.015],[5.075,50.015],[5.075,50.045],[5.025,50.045],[5.025,50.015]]]}}\n"
    ++ codes "]}\n"

-- rides of the first zone are booked 30 minutes ahead, those of the second by 17:00:00 of the day
-- before
unfoldable pub booking_rules_text : List ℕ
booking_rules_text =
    table_text
    ("booking_rule_id" ∷ "booking_type" ∷ "prior_notice_duration_min" ∷ "prior_notice_last_day"
    ∷ "prior_notice_last_time" ∷ [])
    ((codes "b1" ∷ codes "1" ∷ codes "30" ∷ [] ∷ [] ∷ [])
    ∷ (codes "b2" ∷ codes "2" ∷ [] ∷ codes "1" ∷ codes "17:00:00" ∷ [])
    ∷ [])

-- one changes from the stop i to the next one
abbrev pub transfer_record : ℕ → List (List ℕ)
transfer_record i = stop_id i ∷ stop_id (i + 1) ∷ codes "2" ∷ codes "240" ∷ []

-- from each stop but the last of a row
unfoldable pub transfer_records : List (List (List ℕ))
transfer_records = map transfer_record (filter (λ i. not (i % 8 == 7)) (below 40))

unfoldable pub transfers_text : List ℕ
transfers_text =
    table_text ("from_stop_id" ∷ "to_stop_id" ∷ "transfer_type" ∷ "min_transfer_time" ∷ [])
    transfer_records
