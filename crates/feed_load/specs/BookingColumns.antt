-- The columns of booking_rules.txt, and a booking rule by them.
use Rattle.std.specs.Prelude.{◌≡◌, ℕ, if◌then◌else◌, false, List, Option, Some, None}
use Rattle.flex_model.specs.declared.booking.Notice.{Notice}
use Rattle.flex_model.specs.declared.booking.Notice.TheVariants.{RealTime, Ahead, Days}
use Rattle.flex_model.specs.declared.booking.Prior.{Prior}
use Rattle.flex_model.specs.declared.booking.Rule.{Rule}
use Rattle.flex_model.specs.declared.booking.SameDay.{SameDay}
use Rattle.flex_model.specs.declared.booking.SameDay.TheVariants.{Always, Greatest, Start}
use Rattle.feed_tables.specs.Refusals.{is_given}
use Rattle.field_text.specs.Grammars.{count}
use Rattle.feed_meaning.specs.FeedValue.{index_if_given, seconds}
use Rattle.feed_meaning.specs.Rules.{Values, is_bad, is_text}
use Rattle.feed_load.specs.Columns.{column_named, number_within, place_among, text_at}
use Rattle.feed_load.specs.declared.booking_rules.RuleColumns.{RuleColumns}

-- What an accepted folder makes sure of: the numbers of a booking rule are empty or counts that fit
-- 32 bits.
pub record HasCounts (r : Values) : Type 0 where
  pub least : is_bad (count 4294967295) (r "prior_notice_duration_min") ≡ false
  pub greatest : is_bad (count 4294967295) (r "prior_notice_duration_max") ≡ false
  pub last_day : is_bad (count 4294967295) (r "prior_notice_last_day") ≡ false
  pub start_day : is_bad (count 4294967295) (r "prior_notice_start_day") ≡ false

abbrev pub rule_columns : List (List ℕ) → RuleColumns
rule_columns header = record {
  id = column_named header "booking_rule_id";
  kind = column_named header "booking_type";
  least = column_named header "prior_notice_duration_min";
  greatest = column_named header "prior_notice_duration_max";
  last_day = column_named header "prior_notice_last_day";
  last_time = column_named header "prior_notice_last_time";
  start_day = column_named header "prior_notice_start_day";
  start_time = column_named header "prior_notice_start_time";
  service = column_named header "prior_notice_service_id";
  message = column_named header "message";
  pickup_message = column_named header "pickup_message";
  drop_off_message = column_named header "drop_off_message";
  phone = column_named header "phone_number";
}

abbrev pub prior_by : List ℕ → List ℕ → Prior
prior_by day time = record { days = number_within day; time = seconds time }

-- when a booking opens, where its day is given
abbrev pub start_by : List ℕ → List ℕ → Option Prior
start_by day time = if is_given day then Some (prior_by day time) else None

abbrev pub start_at : RuleColumns → List (List ℕ) → Option Prior
start_at columns fields =
    start_by (text_at fields columns.start_day) (text_at fields columns.start_time)

abbrev pub opens_from : Option Prior → SameDay
opens_from (Some start) = Start start
opens_from None = Always

abbrev pub opening_at : RuleColumns → List (List ℕ) → SameDay
opening_at columns fields =
    if is_given (text_at fields columns.greatest)
    then Greatest (number_within (text_at fields columns.greatest))
    else opens_from (start_at columns fields)

-- a notice by a record's fields, beside the ids of the services
abbrev pub notice_at : List (List ℕ) → RuleColumns → List (List ℕ) → Notice
notice_at service_ids columns fields =
    if is_text (text_at fields columns.kind) "1"
    then Ahead (number_within (text_at fields columns.least)) (opening_at columns fields)
    else if is_text (text_at fields columns.kind) "2"
    then Days (prior_by (text_at fields columns.last_day) (text_at fields columns.last_time))
    (start_at columns fields)
    (index_if_given (place_among service_ids) (text_at fields columns.service))
    else RealTime

-- a booking rule by a record's fields, beside the ids of the services
abbrev pub rule_at : List (List ℕ) → RuleColumns → List (List ℕ) → Rule
rule_at service_ids columns fields = record {
  id = text_at fields columns.id;
  notice = notice_at service_ids columns fields;
  message = text_at fields columns.message;
  pickup_message = text_at fields columns.pickup_message;
  drop_off_message = text_at fields columns.drop_off_message;
  phone = text_at fields columns.phone;
}
