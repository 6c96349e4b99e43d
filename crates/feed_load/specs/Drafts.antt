-- The records of stop_times.txt before their times are filled, and how rows come of them.
use Rattle.std.specs.Prelude.{ℕ, Bool, ◌&&◌, ◌||◌, if◌then◌else◌, List, unwrap_or}
use Rattle.flex_model.specs.declared.trip.Row.{Row}
use Rattle.flex_model.specs.declared.trip.Spot.{Spot}
use Rattle.flex_model.specs.declared.trip.Spot.TheVariants as spot
use Rattle.flex_model.specs.declared.trip.Timing.TheVariants as timing
use Rattle.flex_model.specs.declared.trip.Way.{Way}
use Rattle.flex_model.specs.declared.trip.Way.TheVariants.{No, Free, Book}
use Rattle.feed_tables.specs.Refusals.{is_given}
use Rattle.field_text.specs.Grammars.{time}
use Rattle.feed_meaning.specs.FeedRules.{has_window, sequence as stop_sequence}
use Rattle.feed_meaning.specs.FeedValue.{index_if_given, seconds}
use Rattle.feed_meaning.specs.Rules.{Values, is_empty, is_text}
use Rattle.feed_load.specs.Columns.{column_named, place_among, text_at}
use Rattle.feed_load.specs.LinearTimes.{arrival, departure}
use Rattle.feed_load.specs.declared.drafts.Draft.{Draft}
use Rattle.feed_load.specs.declared.drafts.DraftColumns.{DraftColumns}
use Rattle.feed_load.specs.declared.named_ids.FeedIds.{FeedIds}
use Rattle.feed_load.specs.declared.linear_times.GivenRow.{GivenRow}

-- a stop or a group by its text, else a zone
abbrev pub spot_among : FeedIds → List ℕ → List ℕ → List ℕ → Spot
spot_among ids stop group location =
    if is_given stop then spot.Stop (place_among ids.stops stop)
    else if is_given group then spot.Group (place_among ids.groups group)
    else spot.Zone (place_among ids.zones location)

-- how one boards or alights by the type and the booking rule, beside a window or not
abbrev pub way_among : List (List ℕ) → Bool → List ℕ → List ℕ → Way
way_among rule_ids windowed kind rule =
    if is_text kind "1" then No
    else if is_text kind "2" || (is_empty kind && windowed)
    then Book (index_if_given (place_among rule_ids) rule)
    else Free

-- the times that a record gives
abbrev pub given_of : Values → GivenRow
given_of r = record {
  window = has_window r;
  arrives = time (r "arrival_time");
  departs = time (r "departure_time");
}

-- a record of a trip beside the ids
abbrev pub draft_of : FeedIds → Values → Draft
draft_of ids r = record {
  sequence = unwrap_or (stop_sequence (r "stop_sequence")) 0;
  «spot» = spot_among ids (r "stop_id") (r "location_group_id") (r "location_id");
  start = seconds (r "start_pickup_drop_off_window");
  end = seconds (r "end_pickup_drop_off_window");
  given = given_of r;
  pickup =
      way_among ids.booking_rules (has_window r) (r "pickup_type") (r "pickup_booking_rule_id");
  drop_off =
      way_among ids.booking_rules (has_window r) (r "drop_off_type") (r "drop_off_booking_rule_id");
}

-- a row with these times, of which one stands for both
abbrev pub row_with : Draft → GivenRow → Row
row_with draft times = record {
  sequence = draft.sequence;
  «spot» = draft.spot;
  timing =
      if draft.given.window then timing.Window draft.start draft.end
      else timing.Times (arrival times) (departure times);
  pickup = draft.pickup;
  drop_off = draft.drop_off;
}

-- ---- by the columns of a table

abbrev pub draft_columns : List (List ℕ) → DraftColumns
draft_columns header = record {
  sequence = column_named header "stop_sequence";
  stop = column_named header "stop_id";
  group = column_named header "location_group_id";
  location = column_named header "location_id";
  arrival = column_named header "arrival_time";
  departure = column_named header "departure_time";
  start = column_named header "start_pickup_drop_off_window";
  end = column_named header "end_pickup_drop_off_window";
  pickup = column_named header "pickup_type";
  drop_off = column_named header "drop_off_type";
  pickup_rule = column_named header "pickup_booking_rule_id";
  drop_off_rule = column_named header "drop_off_booking_rule_id";
}

abbrev pub windowed_at : DraftColumns → List (List ℕ) → Bool
windowed_at columns fields =
    is_given (text_at fields columns.start) || is_given (text_at fields columns.end)

-- a record of a trip by its fields
abbrev pub draft_at : FeedIds → DraftColumns → List (List ℕ) → Draft
draft_at ids columns fields = record {
  sequence = unwrap_or (stop_sequence (text_at fields columns.sequence)) 0;
  «spot» =
      spot_among ids (text_at fields columns.stop) (text_at fields columns.group)
      (text_at fields columns.location);
  start = seconds (text_at fields columns.start);
  end = seconds (text_at fields columns.end);
  given = record {
    window = windowed_at columns fields;
    arrives = time (text_at fields columns.arrival);
    departs = time (text_at fields columns.departure);
  };
  pickup =
      way_among ids.booking_rules (windowed_at columns fields) (text_at fields columns.pickup)
      (text_at fields columns.pickup_rule);
  drop_off =
      way_among ids.booking_rules (windowed_at columns fields) (text_at fields columns.drop_off)
      (text_at fields columns.drop_off_rule);
}
