-- Bookings of one end of a ride: its boarding, or its alighting.
--
-- An end has a booking where its record's way is booked. This project's own.
use Rattle.std.specs.Prelude.{◌≡◌, ℕ, ◌<◌, ℤ, Option, Some, length, slice_get}
use Rattle.flex_model.specs.declared.feed.Feed.{Feed}
use Rattle.flex_model.specs.declared.moment.DayTable.{DayTable}
use Rattle.flex_model.specs.declared.moment.Deadline.{Deadline}
use Rattle.flex_model.specs.declared.moment.Deadline.TheVariants.{At, Never}
use Rattle.flex_model.specs.declared.ride.Ride.{Ride}
use Rattle.flex_model.specs.declared.trip.Row.{Row}
use Rattle.flex_model.specs.declared.trip.Trip.{Trip}
use Rattle.flex_model.specs.declared.trip.Way.{Way}
use Rattle.flex_model.specs.declared.trip.Way.TheVariants.{Book}
use Rattle.flex_model.specs.Booking.{CanBook, ClosesAt}

-- the feed has the ride's trip, and the trip its two records
abbrev pub HasRows : Feed → Ride → Type 0
HasRows feed ride =
    (trip : Trip) × (slice_get feed.trips ride.trip ≡ Some trip)
    × (ride.from_row < length trip.rows) × (ride.to_row < length trip.rows)

-- the ride is boarded and left in these ways
abbrev pub AreWays : Feed → Ride → Way → Way → Type 0
AreWays feed ride pickup drop_off =
    (trip : Trip) × (boarding alighting : Row) × (slice_get feed.trips ride.trip ≡ Some trip)
    × (slice_get trip.rows ride.from_row ≡ Some boarding)
    × (slice_get trip.rows ride.to_row ≡ Some alighting)
    × (boarding.pickup ≡ pickup) × (alighting.drop_off ≡ drop_off)

-- where the end is booked, its booking can be made, now or later
abbrev pub CanBookEnd : Feed → DayTable → Ride → Way → ℤ → Type 0
CanBookEnd feed days ride way now =
    (rule : Option ℕ) → way ≡ Book rule → CanBook feed days rule ride.day ride.departs now

-- the closing of the end's booking, and never where it isn't booked
abbrev pub IsEndDeadline : Feed → DayTable → Ride → Way → Deadline → Type 0
IsEndDeadline feed days ride way Never = (rule : Option ℕ) → way ≡ Book rule → ⊥
IsEndDeadline feed days ride way (At closing) =
    (rule : Option ℕ) × (way ≡ Book rule) × ClosesAt feed days rule ride.day ride.departs closing
