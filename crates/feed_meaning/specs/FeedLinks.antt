-- The rules that tie the tables of a feed to each other, a line a rule, by the references between
-- files of the GTFS Schedule reference. That the times of a trip don't fall, and where they may be
-- left out, is this project's own form of it.
use Rattle.std.specs.Prelude.{ℕ, nat_lt, Bool, not, ◌&&◌, ◌||◌, if◌then◌else◌, List, [], ◌∷◌, filter, Option}
use Rattle.std.specs.List.{find, list_any}
use Rattle.std.specs.Option.{option_and_then, option_or}
use Rattle.std.specs.Str.{bytes_eq}
use Rattle.feed_tables.specs.Refusals.{is_given}
use Rattle.flex_model.specs.declared.fault.FaultCode.TheVariants.{BadStopKind, SharedId, TimeOrder, UnknownId, UntimedEnd}
use Rattle.flex_model.specs.declared.fault.InputFile.{InputFile}
use Rattle.flex_model.specs.declared.fault.InputFile.TheVariants.{Stops, Routes, Trips, StopTimes, Calendar, CalendarDates, Locations, LocationGroups, BookingRules}
use Rattle.feed_meaning.specs.FeedRules.{has_time, has_window, is_boarding, is_later, is_passed_over, sequence}
use Rattle.field_text.specs.Grammars.{time}
use Rattle.feed_meaning.specs.Rules.{Rule, Values, rule, stand}
use Prim.Native.String.{String}

-- the records of each file. Those of locations.geojson are its features, with their id as the one
-- column
abbrev pub Tables : Type 0
Tables = InputFile → List Values

-- the rules at a record, beside all tables
abbrev pub Links : Type 0
Links = Tables → Values → List Rule

-- some record of the file has this text in the column
abbrev pub is_in : Tables → InputFile → String → List ℕ → Bool
is_in tables file column text = list_any (λ s. bytes_eq text (s column)) (tables file)

-- a text that is given, and that no record of the file has in the column
abbrev pub is_unknown : Tables → InputFile → String → List ℕ → Bool
is_unknown tables file column text = is_given text && not (is_in tables file column text)

-- a text that is given, and no service of either calendar
abbrev pub is_unknown_service : Tables → List ℕ → Bool
is_unknown_service tables text =
    is_unknown tables Calendar "service_id" text
    && is_unknown tables CalendarDates "service_id" text

-- the text is the id of a stop where one can't board, as a station
abbrev pub is_station : Tables → List ℕ → Bool
is_station tables text =
    list_any (λ s. bytes_eq text (s "stop_id") && not (is_boarding s)) (tables Stops)

abbrev pub trip_links : Links
trip_links tables r =
    rule UnknownId (is_unknown tables Routes "route_id" (r "route_id"))
    ∷ rule UnknownId (is_unknown_service tables (r "service_id"))
    ∷ []

-- a is a record of the same trip as b, with a lesser stop_sequence
abbrev pub is_before : Values → Values → Bool
is_before a b =
    bytes_eq (a "trip_id") (b "trip_id")
    && stand nat_lt (sequence (a "stop_sequence")) (sequence (b "stop_sequence"))

abbrev pub is_timed : Values → Bool
is_timed r = not (has_window r) && has_time r

abbrev pub is_untimed : Values → Bool
is_untimed r = not (has_window r) && not (has_time r)

-- the times of a timed record: one that is given stands for both
abbrev pub arrival : Values → Option ℕ
arrival r = option_or (time (r "arrival_time")) (time (r "departure_time"))

abbrev pub departure : Values → Option ℕ
departure r = option_or (time (r "departure_time")) (time (r "arrival_time"))

-- of the records before r in its trip the nearest one, and of those after it
abbrev pub nearest_before : List Values → Values → Option Values
nearest_before records r =
    find
    (λ a. is_before a r && not (list_any (λ b. is_before a b && is_before b r) records))
    records

abbrev pub nearest_after : List Values → Values → Option Values
nearest_after records r =
    find
    (λ a. is_before r a && not (list_any (λ b. is_before r b && is_before b a) records))
    records

-- the first or the last record without window of its trip
abbrev pub is_end : List Values → Values → Bool
is_end stop_times r =
    let windowless = filter (λ s. not (has_window s)) stop_times in
    not (list_any (λ s. is_before s r) windowless) || not (list_any (λ s. is_before r s) windowless)

abbrev pub is_unknown_rule : Tables → List ℕ → Bool
is_unknown_rule tables text = is_unknown tables BookingRules "booking_rule_id" text

-- a record with times is reached before its nearest timed record before it is left
abbrev pub falls_back : Tables → Values → Bool
falls_back tables r =
    let timed = filter is_timed (tables StopTimes) in
    is_timed r && stand is_later (option_and_then departure (nearest_before timed r)) (arrival r)

abbrev pub stop_time_links : Links
stop_time_links tables r =
    rule UnknownId (is_unknown tables Trips "trip_id" (r "trip_id"))
    ∷ rule UnknownId (is_unknown tables Stops "stop_id" (r "stop_id"))
    ∷ rule BadStopKind (is_given (r "stop_id") && is_station tables (r "stop_id"))
    ∷ rule UnknownId (is_unknown tables LocationGroups "location_group_id" (r "location_group_id"))
    ∷ rule UnknownId (is_unknown tables Locations "id" (r "location_id"))
    ∷ rule UnknownId (is_unknown_rule tables (r "pickup_booking_rule_id"))
    ∷ rule UnknownId (is_unknown_rule tables (r "drop_off_booking_rule_id"))
    ∷ rule UntimedEnd (is_untimed r && is_end (tables StopTimes) r)
    ∷ rule TimeOrder (falls_back tables r)
    ∷ []

abbrev pub location_links : Links
location_links tables r =
    rule SharedId (is_in tables Stops "stop_id" (r "id"))
    ∷ []

abbrev pub group_links : Links
group_links tables r =
    let id = r "location_group_id" in
    rule SharedId (is_in tables Stops "stop_id" id || is_in tables Locations "id" id)
    ∷ []

abbrev pub group_stop_links : Links
group_stop_links tables r =
    rule UnknownId (is_unknown tables LocationGroups "location_group_id" (r "location_group_id"))
    ∷ rule UnknownId (is_unknown tables Stops "stop_id" (r "stop_id"))
    ∷ []

abbrev pub booking_rule_links : Links
booking_rule_links tables r =
    rule UnknownId (is_unknown_service tables (r "prior_notice_service_id"))
    ∷ []

abbrev pub change_links : Links
change_links tables r =
    rule UnknownId (is_unknown tables Stops "stop_id" (r "from_stop_id"))
    ∷ rule UnknownId (is_unknown tables Stops "stop_id" (r "to_stop_id"))
    ∷ []

abbrev pub transfer_links : Links
transfer_links tables r = if is_passed_over r then [] else change_links tables r

abbrev pub frequency_links : Links
frequency_links tables r =
    rule UnknownId (is_unknown tables Trips "trip_id" (r "trip_id"))
    ∷ []
