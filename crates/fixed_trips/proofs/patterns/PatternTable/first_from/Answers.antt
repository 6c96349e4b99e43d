-- The trips are those of the list that contracts see.
use Rattle.std.proofs.Common.{◌≡◌, w64, to_z, of_z, sym, subst}
use Rattle.std.proofs.lemmas.Int.{to_z-of_z}
use Rattle.fixed_trips.specs.PatternParts.{HasPatternTrips, IsRideOfOne}
use Rattle.fixed_trips.specs.Patterns.{IsFirst}
use Rattle.fixed_trips.proofs.PatternTables.{first_of_pattern, trips_of}
use Rattle.fixed_trips.proofs.patterns.PatternTable.first_from.Goals as goal

pub first_of_trips-requires-clause-trips : goal.first_of_trips-requires-clause-trips
first_of_trips-requires-clause-trips c =
    trips_of c.args.feed.now c.args.self.now c.as_slice.result.now c.trips_with-trips.result.now c.args.pattern c.requires.table
    (subst (HasPatternTrips c.args.self.now) (sym c.as_slice.ensures) (subst (λ ps. HasPatternTrips ps c.self.inside.trips) c.self.view_is c.self.invariant.trips_are))
    c.trips_with-trips.ensures

pub returns : goal.returns
returns c = λ times.
    let earliest : to_z w64 (of_z w64 c.args.earliest) ≡ c.args.earliest = to_z-of_z w64 c.args.earliest c.ranges.earliest in
    first_of_pattern c.args.feed.now c.args.self.now c.as_slice.result.now c.trips_with-trips.result.now c.args.pattern c.requires.table
    (subst (HasPatternTrips c.args.self.now) (sym c.as_slice.ensures) (subst (λ ps. HasPatternTrips ps c.self.inside.trips) c.self.view_is c.self.invariant.trips_are))
    c.trips_with-trips.ensures times c.args.days.now c.args.from_row c.args.to_row c.args.earliest c.first_of_trips.result
    (subst (λ e. IsFirst (IsRideOfOne c.args.feed.now times c.args.days.now c.trips_with-trips.result.now c.args.from_row c.args.to_row e) c.first_of_trips.result) earliest (c.first_of_trips.ensures times))
