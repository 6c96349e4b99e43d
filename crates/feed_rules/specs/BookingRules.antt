-- A record of booking_rules.txt, as it is read.
use Rattle.std.specs.Prelude.{◌≡◌, ℕ, List, codes, position}
use Rattle.std.specs.Str.{bytes_eq}
use Rattle.field_text.specs.Grammars.{choice, count, time}
use Rattle.feed_meaning.specs.Rules.{Values}
use Rattle.feed_rules.specs.declared.booking_rules.BookingColumns.{BookingColumns}
use Rattle.feed_rules.specs.declared.booking_rules.BookingRule.{BookingRule}

-- the places of the columns in a header
pub record AreBookingColumns (header : List (List ℕ)) (c : BookingColumns) : Type 0 where
  pub booking_rule_id : c.booking_rule_id ≡ position (bytes_eq (codes "booking_rule_id")) header
  pub booking_type : c.booking_type ≡ position (bytes_eq (codes "booking_type")) header
  pub duration_min : c.duration_min ≡ position (bytes_eq (codes "prior_notice_duration_min")) header
  pub duration_max : c.duration_max ≡ position (bytes_eq (codes "prior_notice_duration_max")) header
  pub last_day : c.last_day ≡ position (bytes_eq (codes "prior_notice_last_day")) header
  pub last_time : c.last_time ≡ position (bytes_eq (codes "prior_notice_last_time")) header
  pub start_day : c.start_day ≡ position (bytes_eq (codes "prior_notice_start_day")) header
  pub start_time : c.start_time ≡ position (bytes_eq (codes "prior_notice_start_time")) header
  pub service_id : c.service_id ≡ position (bytes_eq (codes "prior_notice_service_id")) header

-- the texts and the values of a record
pub record IsReadBooking (r : Values) (b : BookingRule) : Type 0 where
  pub rule_id : b.rule_id.now ≡ r "booking_rule_id"
  pub kind : b.kind.now ≡ r "booking_type"
  pub kind_number : b.kind_number ≡ choice 0 2 (r "booking_type")
  pub duration_min : b.duration_min.now ≡ r "prior_notice_duration_min"
  pub least_minutes : b.least_minutes ≡ count 1000000 (r "prior_notice_duration_min")
  pub duration_max : b.duration_max.now ≡ r "prior_notice_duration_max"
  pub most_minutes : b.most_minutes ≡ count 1000000 (r "prior_notice_duration_max")
  pub last_day : b.last_day.now ≡ r "prior_notice_last_day"
  pub last_days : b.last_days ≡ count 1000 (r "prior_notice_last_day")
  pub last_time : b.last_time.now ≡ r "prior_notice_last_time"
  pub last_seconds : b.last_seconds ≡ time (r "prior_notice_last_time")
  pub start_day : b.start_day.now ≡ r "prior_notice_start_day"
  pub start_days : b.start_days ≡ count 1000 (r "prior_notice_start_day")
  pub start_time : b.start_time.now ≡ r "prior_notice_start_time"
  pub start_seconds : b.start_seconds ≡ time (r "prior_notice_start_time")
  pub service : b.service.now ≡ r "prior_notice_service_id"
