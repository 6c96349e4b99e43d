-- The trips and the count are of the patterns that the table keeps.
use Rattle.std.proofs.Common.{sym, ◌∙◌, subst}
use Rattle.fixed_trips.specs.PatternParts.{HasPatternTrips, IsCountOf}
use Rattle.fixed_trips.proofs.patterns.PatternTable.build.Goals as goal

pub invariant_of-result : goal.invariant_of-result
invariant_of-result c = record {
  trips_are = subst (λ patterns. HasPatternTrips patterns c.in_ok-trips.trips) (c.as_slice.ensures.value ∙ sym c.from_vec.ensures) c.in_ok-trips.ensures.trips;
  in_order = c.in_ok-trips.ensures.sorted;
  count_is = subst (λ patterns. IsCountOf patterns c.in_ok-found.found.count) (sym c.from_vec.ensures) c.in_ok-found.ensures.count;
}
