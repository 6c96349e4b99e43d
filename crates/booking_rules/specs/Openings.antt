-- Openings of bookings.
--
-- A booking under a rule is always open, opens at a moment, or never opens. It never opens where
-- the rule counts days back for the opening and there is no day so far back.
--
-- GTFS Schedule reference, booking_rules.txt (prior_notice_duration_max, prior_notice_start_day and
-- _time). That a booking without either is always open is this project's own.
use Rattle.std.specs.Prelude.{ℕ, ℤ, pos, ◌≤ℤ◌, Option, Some, None}
use Rattle.flex_model.specs.declared.booking.Notice.{Notice}
use Rattle.flex_model.specs.declared.booking.Prior.{Prior}
use Rattle.flex_model.specs.declared.feed.Feed.{Feed}
use Rattle.flex_model.specs.declared.moment.DayTable.{DayTable}
use Rattle.flex_model.specs.Booking.{IsAlwaysOpen, IsNoticeOf, OpensAt}
use Rattle.flex_model.specs.ServiceDay.{IsBack, IsMoment}
use Rattle.booking_rules.specs.declared.opens.Opening.{Opening}
use Rattle.booking_rules.specs.declared.opens.Opening.TheVariants.{Always, From, Never}

-- from 0 to 10,000,000,000 seconds, as the departure of every permitted ride is
pub record IsInRange (departs : ℤ) : Type 0 where
  pub low : pos 0 ≤ℤ departs
  pub high : departs ≤ℤ pos 10000000000

-- the moment of the time of the day that is so many days back from the day
abbrev pub IsMomentBack : Feed → DayTable → Option ℕ → ℤ → Prior → ℤ → Type 0
IsMomentBack feed days service day prior moment =
    (earlier : ℤ) × IsBack feed service day prior.days earlier
    × IsMoment days earlier prior.time moment

-- the opening at a moment that may be absent
abbrev pub opening_at : Option ℤ → Opening
opening_at None = Never
opening_at (Some moment) = From moment

-- A booking under the notice opens so, for a ride of the day with this departure.
abbrev pub Opens : Feed → DayTable → Notice → ℤ → ℤ → Opening → Type 0
Opens feed days notice day departs Always = IsAlwaysOpen notice
Opens feed days notice day departs (From opening) = OpensAt feed days notice day departs opening
Opens feed days notice day departs Never =
    (IsAlwaysOpen notice → ⊥) × ((opening : ℤ) → OpensAt feed days notice day departs opening → ⊥)

-- A booking under the rule opens so.
abbrev pub IsOpening : Feed → DayTable → Option ℕ → ℤ → ℤ → Opening → Type 0
IsOpening feed days rule day departs opening =
    (notice : Notice) × IsNoticeOf feed rule notice × Opens feed days notice day departs opening

-- the opening isn't after the moment
abbrev pub OpensBefore : Opening → ℤ → Type 0
OpensBefore Always moment = Unit {0}
OpensBefore (From opening) moment = opening ≤ℤ moment
OpensBefore Never moment = ⊥
