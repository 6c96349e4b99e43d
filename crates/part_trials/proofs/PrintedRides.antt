-- Rides on the one trip of a feed are printed.
use Rattle.std.proofs.Common.{ℕ, ℤ, pos, ◌<◌, Option, is_some, arith, lit<, subst, sym}
use Rattle.std.proofs.lemmas.Int.{ints}
use Rattle.field_text.specs.Texts.{IsPrintableMoment}
use Rattle.flex_model.specs.declared.feed.Feed.{Feed}
use Rattle.flex_model.specs.declared.place.Place.TheVariants as place
use Rattle.flex_model.specs.declared.ride.Ride.{Ride}
use Rattle.part_trials.specs.Printed.{HasOneTrip, IsPrinted}

-- from the first record to the second one on 4 June 2025
abbrev pub ride_at : Option ℕ → ℤ → ℤ → Ride
ride_at start departs arrives = record {
  trip = 0;
  day = pos 20243;
  start = start;
  from_row = 0;
  to_row = 1;
  board = place.Stop 0;
  alight = place.Stop 1;
  departs = departs;
  arrives = arrives;
}

pub is_printed : (feed : Feed) (start : Option ℕ) (departs arrives : ℤ) → HasOneTrip (is_some start) feed
    → IsPrintableMoment departs → IsPrintableMoment arrives → IsPrinted feed (ride_at start departs arrives)
is_printed feed start departs arrives has leaves ends times = record {
  trip = has.trip;
  of_trip = has.of_trip;
  id = has.id;
  day = record { low = omega (arith, ints); high = omega (arith, ints) };
  from = subst (λ n. 0 < n) (sym has.rows) (lit< tt);
  to = subst (λ n. 1 < n) (sym has.rows) (lit< tt);
  board = has.from;
  alight = has.to;
  departs = leaves;
  arrives = ends;
  starts = sym has.frequent;
}
