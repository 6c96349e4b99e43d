-- A sort puts the trips in order.
use Rattle.std.proofs.Common.{rules, sym, subst}
use Rattle.std.proofs.lemmas.List.Sorted.{IsNonDecreasingBy-from_sort_by_key}
use Rattle.fixed_trips.specs.PatternParts.{AreInOrder}
use Rattle.fixed_trips.specs.declared.pattern_trips.PatternTrip.{PatternTrip}
use Rattle.fixed_trips.proofs.pattern_trips.in_order.Goals as goal

pub returns-clause-sorted : goal.returns-clause-sorted
returns-clause-sorted c =
    subst AreInOrder (sym c.from_vec.ensures)
    (IsNonDecreasingBy-from_sort_by_key (λ (m : PatternTrip). m.pattern) _ c.in_ok-sort_by_key.ensures.sorted (λ a r q k. search rules))
