-- The feed that an accepted folder holds, read as the GTFS Schedule reference with GTFS-Flex says.
-- Times between the timed records of a trip are this project's own. Where a text names nothing,
-- which no accepted folder has, a first one stands in.
use Rattle.std.specs.Prelude.{ℕ, ◌+◌, ◌-◌, ◌*◌, ◌/◌, ◌==◌, nat_lt, Bool, false, not, ◌&&◌, ◌||◌, if◌then◌else◌, ℤ, pos, List, [], ◌∷◌, ◌++◌, count_by, filter, length, map, position, Option, Some, None, unwrap_or}
use Rattle.std.specs.List.{enumerate_from, find, flat_map, list_any, range_with_len}
use Rattle.std.specs.Option.{option_map_or}
use Rattle.std.specs.Str.{bytes_eq}
use Rattle.feed_tables.specs.Refusals.{is_given}
use Rattle.flex_model.specs.declared.booking.Notice.{Notice}
use Rattle.flex_model.specs.declared.booking.Notice.TheVariants.{RealTime, Ahead, Days}
use Rattle.flex_model.specs.declared.booking.Prior.{Prior}
use Rattle.flex_model.specs.declared.booking.Rule.{Rule}
use Rattle.flex_model.specs.declared.booking.SameDay.{SameDay}
use Rattle.flex_model.specs.declared.booking.SameDay.TheVariants.{Always, Greatest, Start}
use Rattle.flex_model.specs.declared.change.ChangeKind.TheVariants.{Least, Forbidden}
use Rattle.flex_model.specs.declared.change.ChangeRow.{ChangeRow}
use Rattle.flex_model.specs.declared.fault.InputFile.{InputFile}
use Rattle.flex_model.specs.declared.fault.InputFile.TheVariants.{Stops, Trips, StopTimes, Calendar, CalendarDates, Locations, LocationGroups, LocationGroupStops, BookingRules, Transfers, Frequencies}
use Rattle.flex_model.specs.declared.feed.Feed.{Feed}
use Rattle.flex_model.specs.declared.place.Group.{Group}
use Rattle.flex_model.specs.declared.place.Stop.{Stop}
use Rattle.flex_model.specs.declared.place.Zone.{Zone}
use Rattle.flex_model.specs.declared.service.Service.{Service}
use Rattle.flex_model.specs.declared.trip.Repeat.{Repeat}
use Rattle.flex_model.specs.declared.trip.Row.{Row}
use Rattle.flex_model.specs.declared.trip.Spot.{Spot}
use Rattle.flex_model.specs.declared.trip.Spot.TheVariants as spot
use Rattle.flex_model.specs.declared.trip.Timing.{Timing}
use Rattle.flex_model.specs.declared.trip.Timing.TheVariants as timing
use Rattle.flex_model.specs.declared.trip.Trip.{Trip}
use Rattle.flex_model.specs.declared.trip.Way.{Way}
use Rattle.flex_model.specs.declared.trip.Way.TheVariants.{No, Free, Book}
use Rattle.flex_model.specs.Zone.{is_in_zone}
use Rattle.feed_meaning.specs.FeedFaults.{Feature, Geo, features, tables}
use Rattle.feed_meaning.specs.FeedLinks.{Tables, arrival, departure, is_before, is_in, is_timed, nearest_after, nearest_before}
use Rattle.feed_meaning.specs.FeedRules.{has_time, has_window, is_boarding, is_passed_over}
use Rattle.feed_meaning.specs.Folder.{Folder}
use Rattle.field_text.specs.Grammars.{date, degree, number, time}
use Rattle.feed_meaning.specs.Rules.{Values, is_empty, is_text}
use Rattle.feed_meaning.specs.Tables.{with_earlier}
use Prim.Native.String.{String}

-- the indexes of the items that pass, rising
abbrev pub indices_where : {X : Type 0} → (X → Bool) → List X → List ℕ
indices_where test items = map (λ p. p.0) (filter (λ p. test p.1) (enumerate_from 0 items))

-- the items in rising order: the k-th are those that k others come before
abbrev pub rising : {X : Type 0} → (X → X → Bool) → List X → List X
rising comes_before items =
    flat_map (λ k. filter (λ x. count_by (λ y. comes_before y x) items == k) items)
    (range_with_len 0 (length items))

-- each text once, by its first appearance
abbrev pub first_appearances : List (List ℕ) → List (List ℕ)
first_appearances texts =
    map (λ p. p.1) (filter (λ p. not (list_any (bytes_eq p.1) p.0)) (with_earlier texts))

-- the index of the first item that passes
abbrev pub first_index : {X : Type 0} → (X → Bool) → List X → ℕ
first_index test items = unwrap_or (position test items) 0

-- the index of the record that has this text in the column
abbrev pub index_in : Tables → InputFile → String → List ℕ → ℕ
index_in tables file column text = first_index (λ s. bytes_eq text (s column)) (tables file)

-- the same, where a text is given
abbrev pub index_if_given : (List ℕ → ℕ) → List ℕ → Option ℕ
index_if_given index text = if is_given text then Some (index text) else None

-- a coordinate, and 0 where none is given
abbrev pub coordinate : ℕ → List ℕ → ℤ
coordinate greatest text = unwrap_or (degree greatest text) (pos 0)

abbrev pub seconds : List ℕ → ℕ
seconds text = unwrap_or (time text) 0

abbrev pub stop_of : Values → Stop
stop_of r = record {
  id = r "stop_id";
  at = record { lon = coordinate 180 (r "stop_lon"); lat = coordinate 90 (r "stop_lat") };
  boards = is_boarding r;
}

-- a zone with the stops that it serves
abbrev pub zone_of : List Stop → Feature → Zone
zone_of stops feature = record {
  id = feature.id;
  polygons = feature.polygons;
  stops = indices_where (λ stop. stop.boards && is_in_zone feature.polygons stop.at) stops;
}

-- the group and the stop are paired
abbrev pub is_paired : Tables → Values → Values → Bool
is_paired tables group stop =
    list_any
    (λ p. bytes_eq (group "location_group_id") (p "location_group_id")
    && bytes_eq (stop "stop_id") (p "stop_id"))
    (tables LocationGroupStops)

abbrev pub group_of : Tables → Values → Group
group_of tables r = record {
  id = r "location_group_id";
  members = indices_where (is_paired tables r) (tables Stops);
}

abbrev pub service_ids : Tables → List (List ℕ)
service_ids tables =
    first_appearances (map (λ r. r "service_id") (tables Calendar ++ tables CalendarDates))

abbrev pub day : List ℕ → ℤ
day text = unwrap_or (date text) (pos 0)

-- the flags of a week, from Monday
abbrev pub week : Values → List Bool
week r =
    map (λ name. is_text (r name) "1")
    ("monday" ∷ "tuesday" ∷ "wednesday" ∷ "thursday" ∷ "friday" ∷ "saturday" ∷ "sunday" ∷ [])

abbrev pub no_days : List Bool
no_days = false ∷ false ∷ false ∷ false ∷ false ∷ false ∷ false ∷ []

-- the dates of a service with this exception type
abbrev pub exceptions : Tables → List ℕ → String → List ℤ
exceptions tables id kind =
    map (λ r. day (r "date"))
    (filter (λ r. bytes_eq id (r "service_id") && is_text (r "exception_type") kind)
    (tables CalendarDates))

abbrev pub service_of : Tables → List ℕ → Service
service_of tables id =
    let calendar = find (λ r. bytes_eq id (r "service_id")) (tables Calendar) in
    record {
      id = id;
      flags = option_map_or week calendar no_days;
      first = option_map_or (λ r. day (r "start_date")) calendar (pos 1);
      last = option_map_or (λ r. day (r "end_date")) calendar (pos 0);
      added = exceptions tables id "1";
      removed = exceptions tables id "2";
    }

abbrev pub service_index : Tables → List ℕ → ℕ
service_index tables id = first_index (bytes_eq id) (service_ids tables)

abbrev pub start : Values → Prior
start r = record {
  days = number (r "prior_notice_start_day");
  time = seconds (r "prior_notice_start_time");
}

abbrev pub last : Values → Prior
last r = record {
  days = number (r "prior_notice_last_day");
  time = seconds (r "prior_notice_last_time");
}

abbrev pub has_start : Values → Bool
has_start r = is_given (r "prior_notice_start_day")

abbrev pub opening_of : Values → SameDay
opening_of r =
    if is_given (r "prior_notice_duration_max")
    then Greatest (number (r "prior_notice_duration_max"))
    else if has_start r then Start (start r)
    else Always

abbrev pub notice_of : Tables → Values → Notice
notice_of tables r =
    if is_text (r "booking_type") "1"
    then Ahead (number (r "prior_notice_duration_min")) (opening_of r)
    else if is_text (r "booking_type") "2"
    then Days (last r) (if has_start r then Some (start r) else None)
    (index_if_given (service_index tables) (r "prior_notice_service_id"))
    else RealTime

abbrev pub rule_of : Tables → Values → Rule
rule_of tables r = record {
  id = r "booking_rule_id";
  notice = notice_of tables r;
  message = r "message";
  pickup_message = r "pickup_message";
  drop_off_message = r "drop_off_message";
  phone = r "phone_number";
}

abbrev pub spot_of : Tables → Values → Spot
spot_of tables r =
    if is_given (r "stop_id") then spot.Stop (index_in tables Stops "stop_id" (r "stop_id"))
    else if is_given (r "location_group_id")
    then spot.Group (index_in tables LocationGroups "location_group_id" (r "location_group_id"))
    else spot.Zone (index_in tables Locations "id" (r "location_id"))

-- how many records lie between two of a trip
abbrev pub count_between : List Values → Values → Values → ℕ
count_between records a b = count_by (λ s. is_before a s && is_before s b) records

-- The time of a record that has none, between the departure of one and the arrival of another timed
-- record: in equal parts, rounded down.
abbrev pub time_between : List Values → Values → Values → Values → ℕ
time_between windowless former latter r =
    let leaves = unwrap_or (departure former) 0 in
    let arrives = unwrap_or (arrival latter) 0 in
    leaves
    + (arrives - leaves) * (count_between windowless former r + 1)
    / (count_between windowless former latter + 1)

abbrev pub filled_between : List Values → Option Values → Option Values → Values → ℕ
filled_between windowless (Some former) (Some latter) r = time_between windowless former latter r
filled_between windowless (Some former) None r = 0
filled_between windowless None latter r = 0

-- the time of a record that has none, between its nearest timed neighbours
abbrev pub filled : List Values → Values → ℕ
filled stop_times r =
    let timed = filter is_timed stop_times in
    let windowless = filter (λ s. not (has_window s)) stop_times in
    filled_between windowless (nearest_before timed r) (nearest_after timed r) r

abbrev pub timing_of : Tables → Values → Timing
timing_of tables r =
    if has_window r
    then timing.Window (seconds (r "start_pickup_drop_off_window"))
    (seconds (r "end_pickup_drop_off_window"))
    else if has_time r then timing.Times (unwrap_or (arrival r) 0) (unwrap_or (departure r) 0)
    else timing.Times (filled (tables StopTimes) r) (filled (tables StopTimes) r)

-- None at type 1. Booked at type 2, and at no type beside a window. Free otherwise.
abbrev pub way_of : Tables → Bool → List ℕ → List ℕ → Way
way_of tables windowed kind booking_rule =
    if is_text kind "1" then No
    else if is_text kind "2" || (is_empty kind && windowed)
    then Book (index_if_given (index_in tables BookingRules "booking_rule_id") booking_rule)
    else Free

abbrev pub row_of : Tables → Values → Row
row_of tables r = record {
  sequence = number (r "stop_sequence");
  «spot» = spot_of tables r;
  timing = timing_of tables r;
  pickup = way_of tables (has_window r) (r "pickup_type") (r "pickup_booking_rule_id");
  drop_off = way_of tables (has_window r) (r "drop_off_type") (r "drop_off_booking_rule_id");
}

-- the starts of a trip by a record of frequencies.txt
abbrev pub repeat_of : Values → Repeat
repeat_of r = record {
  first = seconds (r "start_time");
  end = seconds (r "end_time");
  headway = number (r "headway_secs");
}

-- the records of a file that name a trip, in file order
abbrev pub records_of_trip : Tables → InputFile → List ℕ → List Values
records_of_trip tables file trip = filter (λ s. bytes_eq trip (s "trip_id")) (tables file)

-- A trip has its records of stop_times.txt rising, and those of frequencies.txt in file order. It
-- is frequent where there is one of the latter.
abbrev pub trip_of : Tables → Values → Trip
trip_of tables r = record {
  id = r "trip_id";
  service = service_index tables (r "service_id");
  frequent = is_in tables Frequencies "trip_id" (r "trip_id");
  repeats = map repeat_of (records_of_trip tables Frequencies (r "trip_id"));
  rows = map (row_of tables) (rising is_before (records_of_trip tables StopTimes (r "trip_id")));
}

-- the record of a stop where one can board
abbrev pub boards_at : Tables → List ℕ → Bool
boards_at tables text = list_any (λ s. bytes_eq text (s "stop_id") && is_boarding s) (tables Stops)

-- a transfer with a least time or none at all, between stops where one can board
abbrev pub is_change : Tables → Values → Bool
is_change tables r =
    not (is_passed_over r) && (is_text (r "transfer_type") "2" || is_text (r "transfer_type") "3")
    && boards_at tables (r "from_stop_id") && boards_at tables (r "to_stop_id")

abbrev pub change_of : Tables → Values → ChangeRow
change_of tables r = record {
  from = index_in tables Stops "stop_id" (r "from_stop_id");
  to = index_in tables Stops "stop_id" (r "to_stop_id");
  kind =
      if is_text (r "transfer_type") "2" then Least (number (r "min_transfer_time"))
      else Forbidden;
}

abbrev pub change_before : ChangeRow → ChangeRow → Bool
change_before a b = nat_lt a.from b.from || ((a.from == b.from) && nat_lt a.to b.to)

-- the feed of a folder's tables and features
abbrev pub feed_of_tables : Tables → List Feature → Feed
feed_of_tables tables zones =
    let stops = map stop_of (tables Stops) in
    record {
      stops = stops;
      zones = map (zone_of stops) zones;
      groups = map (group_of tables) (tables LocationGroups);
      services = map (service_of tables) (service_ids tables);
      rules = map (rule_of tables) (tables BookingRules);
      trips = map (trip_of tables) (tables Trips);
      changes =
          rising change_before
          (map (change_of tables) (filter (is_change tables) (tables Transfers)));
    }

-- the feed of a folder
abbrev pub feed_of : Geo → Folder → Feed
feed_of geo folder = feed_of_tables (tables geo folder) (features geo folder)
