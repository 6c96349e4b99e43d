-- The open departures of a run are those from some departure on.
use Rattle.std.proofs.Common.{◌≡◌, ◌↔◌, ℕ, ◌*◌, ◌<◌, ◌≤◌, ℤ, pos, ◌+ℤ◌, ◌≤ℤ◌, max, arith}
use Rattle.std.proofs.lemmas.Int.{ints}
use Rattle.flex_model.specs.declared.feed.Feed.{Feed}
use Rattle.flex_model.specs.declared.moment.DayTable.{DayTable}
use Rattle.flex_model.specs.declared.ride.Ride.{Ride}
use Rattle.flex_model.specs.declared.ride.Run.{Run}
use Rattle.flex_model.specs.declared.trip.Way.{Way}
use Rattle.flex_model.specs.Booking.{IsBookable}
use Rattle.booking_rules.specs.Departures.{nth_departure}
use Rattle.booking_rules.specs.Ends.{AreWays, CanBookEnd}
use Rattle.booking_rules.specs.Narrowing.{IsNthOpen, last_number, nth_ride}
use Rattle.booking_rules.proofs.LaterRides.{bookable_later}
use Rattle.booking_rules.proofs.RideEnds.{can_book_both, can_book_drop_off, can_book_pickup}

module _ (feed : Feed) (days : DayTable) (ride : Ride) (run : Run) (now : ℤ) where
  -- where a departure's ride can be booked, the last one's can be
  pub last_bookable : (k : ℕ) → k < run.count → IsBookable feed days (nth_ride ride run k) now → IsBookable feed days (nth_ride ride run (last_number run)) now
  last_bookable k lt bookable = bookable_later feed days (nth_ride ride run k) (nth_departure run (last_number run)) ride.arrives now (omega (arith, ints)) bookable

  module _ (pickup drop_off : Way) (are : AreWays feed ride pickup drop_off) where
    pub last_drop_off : IsBookable feed days (nth_ride ride run (last_number run)) now → CanBookEnd feed days (nth_ride ride run (last_number run)) drop_off now
    last_drop_off = can_book_drop_off feed days (nth_ride ride run (last_number run)) pickup drop_off are now

    -- they are open from the last of the departures on from which each of the three tests holds
    pub open_departures : (earliest : ℤ) (a b d r : ℕ) → ((k : ℕ) → (a ≤ k) ↔ (earliest ≤ℤ (run.first +ℤ pos (60 * k))))
        → ((k : ℕ) → k < run.count → (b ≤ k) ↔ CanBookEnd feed days (nth_ride ride run k) pickup now)
        → ((k : ℕ) → k < run.count → (d ≤ k) ↔ CanBookEnd feed days (nth_ride ride run k) drop_off now)
        → r ≡ max (max a b) d
        → (k : ℕ) → k < run.count → (r ≤ k) ↔ IsNthOpen feed days ride run now earliest k
    open_departures earliest a b d r in_time boards alights most k lt = (
      λ le. record {
        not_before = (in_time k).0 (omega arith);
        bookable = can_book_both feed days (nth_ride ride run k) pickup drop_off are now ((boards k lt).0 (omega arith)) ((alights k lt).0 (omega arith));
      },
      λ is_open.
          let at_earliest : a ≤ k = (in_time k).1 is_open.not_before in
          let at_pickup : b ≤ k = (boards k lt).1 (can_book_pickup feed days (nth_ride ride run k) pickup drop_off are now is_open.bookable) in
          let at_drop_off : d ≤ k = (alights k lt).1 (can_book_drop_off feed days (nth_ride ride run k) pickup drop_off are now is_open.bookable) in
          omega arith,
    )
