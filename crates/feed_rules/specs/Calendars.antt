-- A record of calendar.txt, as it is read.
use Rattle.std.specs.Prelude.{◌≡◌, ℕ, List, codes, position}
use Rattle.std.specs.Str.{bytes_eq}
use Rattle.field_text.specs.Grammars.{choice, date}
use Rattle.feed_meaning.specs.Rules.{Values}
use Rattle.feed_rules.specs.declared.calendar.ServiceWeek.{ServiceWeek}
use Rattle.feed_rules.specs.declared.calendar.WeekColumns.{WeekColumns}

-- the places of the columns in a header
pub record AreWeekColumns (header : List (List ℕ)) (c : WeekColumns) : Type 0 where
  pub service_id : c.service_id ≡ position (bytes_eq (codes "service_id")) header
  pub monday : c.monday ≡ position (bytes_eq (codes "monday")) header
  pub tuesday : c.tuesday ≡ position (bytes_eq (codes "tuesday")) header
  pub wednesday : c.wednesday ≡ position (bytes_eq (codes "wednesday")) header
  pub thursday : c.thursday ≡ position (bytes_eq (codes "thursday")) header
  pub friday : c.friday ≡ position (bytes_eq (codes "friday")) header
  pub saturday : c.saturday ≡ position (bytes_eq (codes "saturday")) header
  pub sunday : c.sunday ≡ position (bytes_eq (codes "sunday")) header
  pub start_date : c.start_date ≡ position (bytes_eq (codes "start_date")) header
  pub end_date : c.end_date ≡ position (bytes_eq (codes "end_date")) header

-- the service of a record, its flags and its days
pub record IsReadWeek (r : Values) (w : ServiceWeek) : Type 0 where
  pub service : w.service.now ≡ r "service_id"
  pub monday : w.monday ≡ choice 0 1 (r "monday")
  pub tuesday : w.tuesday ≡ choice 0 1 (r "tuesday")
  pub wednesday : w.wednesday ≡ choice 0 1 (r "wednesday")
  pub thursday : w.thursday ≡ choice 0 1 (r "thursday")
  pub friday : w.friday ≡ choice 0 1 (r "friday")
  pub saturday : w.saturday ≡ choice 0 1 (r "saturday")
  pub sunday : w.sunday ≡ choice 0 1 (r "sunday")
  pub start : w.start ≡ date (r "start_date")
  pub end : w.end ≡ date (r "end_date")
