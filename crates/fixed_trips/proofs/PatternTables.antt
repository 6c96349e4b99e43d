-- The rides of a pattern, by the list of its trips.
use Rattle.std.proofs.Common.{◌≡◌, ◌↔◌, ℕ, ℤ, List, Option, Some, All, Contains, refl, sym, subst, arith}
use Rattle.std.proofs.lemmas.Option.{slice_get_within}
use Rattle.flex_model.specs.declared.feed.Feed.{Feed}
use Rattle.flex_model.specs.declared.moment.DayTable.{DayTable}
use Rattle.flex_model.specs.declared.ride.Ride.{Ride}
use Rattle.flex_model.specs.declared.times.Times.{Times}
use Rattle.flex_model.proofs.Found.{All-from_contains}
use Rattle.fixed_trips.specs.PatternParts.{HasPatternTrips, IsPatternTrip, IsRideOfOne}
use Rattle.fixed_trips.specs.Patterns.{ArePatternsOf, IsFirst, IsOfPattern, IsPatternRide}
use Rattle.fixed_trips.specs.declared.pattern_trips.PatternTrip.{PatternTrip}
use Rattle.fixed_trips.proofs.PatternNumbers.{item_at}
use Rattle.fixed_trips.proofs.PatternRides.{first_same}

module _ (feed : Feed) (patterns : List (Option ℕ)) (all picked : List PatternTrip) (p : ℕ) (table : ArePatternsOf feed patterns) (has : HasPatternTrips patterns all)
    (with_pattern : (m : PatternTrip) → Contains picked m ↔ (Contains all m × (m.pattern ≡ p))) where
  of_pattern : (m : PatternTrip) → Contains picked m → IsOfPattern patterns m.trip p
  of_pattern m c =
      let h = (with_pattern m).0 c in
      subst (IsOfPattern patterns m.trip) h.1 ((has m).0 h.0)

  pub trips_of : All (λ m. IsPatternTrip feed m.trip) picked
  trips_of = All-from_contains (λ m. IsPatternTrip feed m.trip) picked (λ m c.
      let is = of_pattern m c in
      let within = slice_get_within patterns m.trip (Some p) is in
      let size = table.size in
      let trip = item_at feed.trips m.trip (omega (arith, within, size)) in
      (trip.0, trip.1, (table.some m.trip trip.0 trip.1).0 (p, is)))

  pub first_of_pattern : (times : Times) (days : DayTable) (from_row to_row : ℕ) (earliest : ℤ) (found : Option Ride) → IsFirst (IsRideOfOne feed times days picked from_row to_row earliest) found
      → IsFirst (IsPatternRide feed times days patterns p from_row to_row earliest) found
  first_of_pattern times days from_row to_row earliest found =
      first_same (IsRideOfOne feed times days picked from_row to_row earliest) (IsPatternRide feed times days patterns p from_row to_row earliest) found
      (λ ride. (
        λ h.
            let r = h.2.0 in
            record {
              of_pattern = subst (λ t. IsOfPattern patterns t p) (sym r.of_trip) (of_pattern h.0 h.1);
              from = r.from;
              to = r.to;
              from_then = h.2.1;
              permitted = r.permitted;
            },
        λ h.
            let m : PatternTrip = record { pattern = p; trip = ride.trip } in (
              m,
              (with_pattern m).1 ((has m).1 h.of_pattern, refl),
              (record { of_trip = refl; on_day = refl; from = h.from; to = h.to; permitted = h.permitted }, h.from_then),
            ),
      ))
