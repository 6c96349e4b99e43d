-- A record of stop_times.txt, as it is read.
use Rattle.std.specs.Prelude.{◌≡◌, ℕ, List, codes, position}
use Rattle.std.specs.Str.{bytes_eq}
use Rattle.feed_meaning.specs.FeedRules.{sequence as sequence_of}
use Rattle.field_text.specs.Grammars.{choice, time}
use Rattle.feed_meaning.specs.Rules.{Values}
use Rattle.feed_rules.specs.declared.stop_times.StopTime.{StopTime}
use Rattle.feed_rules.specs.declared.stop_times.StopTimeColumns.{StopTimeColumns}

-- the places of the columns in a header
pub record AreColumns (header : List (List ℕ)) (c : StopTimeColumns) : Type 0 where
  pub trip_id : c.trip_id ≡ position (bytes_eq (codes "trip_id")) header
  pub stop_sequence : c.stop_sequence ≡ position (bytes_eq (codes "stop_sequence")) header
  pub stop_id : c.stop_id ≡ position (bytes_eq (codes "stop_id")) header
  pub location_group_id : c.location_group_id ≡ position
      (bytes_eq (codes "location_group_id")) header
  pub location_id : c.location_id ≡ position (bytes_eq (codes "location_id")) header
  pub arrival_time : c.arrival_time ≡ position (bytes_eq (codes "arrival_time")) header
  pub departure_time : c.departure_time ≡ position (bytes_eq (codes "departure_time")) header
  pub start : c.start ≡ position (bytes_eq (codes "start_pickup_drop_off_window")) header
  pub end : c.end ≡ position (bytes_eq (codes "end_pickup_drop_off_window")) header
  pub pickup_type : c.pickup_type ≡ position (bytes_eq (codes "pickup_type")) header
  pub drop_off_type : c.drop_off_type ≡ position (bytes_eq (codes "drop_off_type")) header
  pub pickup_rule : c.pickup_rule ≡ position (bytes_eq (codes "pickup_booking_rule_id")) header
  pub drop_off_rule : c.drop_off_rule ≡ position
      (bytes_eq (codes "drop_off_booking_rule_id")) header

-- the texts and the values of a record
pub record IsRead (r : Values) (s : StopTime) : Type 0 where
  pub trip : s.trip.now ≡ r "trip_id"
  pub sequence : s.sequence.now ≡ r "stop_sequence"
  pub number : s.number ≡ sequence_of (r "stop_sequence")
  pub stop : s.stop.now ≡ r "stop_id"
  pub group : s.group.now ≡ r "location_group_id"
  pub location : s.location.now ≡ r "location_id"
  pub arrival : s.arrival.now ≡ r "arrival_time"
  pub arrives : s.arrives ≡ time (r "arrival_time")
  pub departure : s.departure.now ≡ r "departure_time"
  pub departs : s.departs ≡ time (r "departure_time")
  pub start : s.start.now ≡ r "start_pickup_drop_off_window"
  pub starts : s.starts ≡ time (r "start_pickup_drop_off_window")
  pub end : s.end.now ≡ r "end_pickup_drop_off_window"
  pub ends : s.ends ≡ time (r "end_pickup_drop_off_window")
  pub pickup : s.pickup.now ≡ r "pickup_type"
  pub pickup_kind : s.pickup_kind ≡ choice 0 3 (r "pickup_type")
  pub drop_off : s.drop_off.now ≡ r "drop_off_type"
  pub drop_off_kind : s.drop_off_kind ≡ choice 0 3 (r "drop_off_type")
  pub pickup_rule : s.pickup_rule.now ≡ r "pickup_booking_rule_id"
  pub drop_off_rule : s.drop_off_rule.now ≡ r "drop_off_booking_rule_id"
