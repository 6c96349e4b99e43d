-- A sort puts the members in order.
use Rattle.std.proofs.Common.{rules, sym, subst}
use Rattle.std.proofs.lemmas.List.Sorted.{IsNonDecreasingBy-from_sort_by_key}
use Rattle.ride_index.specs.Members.{AreByStop}
use Rattle.ride_index.specs.declared.members.Member.{Member}
use Rattle.ride_index.proofs.members.in_order.Goals as goal

pub returns-clause-sorted : goal.returns-clause-sorted
returns-clause-sorted c =
    subst AreByStop (sym c.from_vec.ensures)
    (IsNonDecreasingBy-from_sort_by_key (λ (m : Member). m.stop) _ c.in_ok-sort_by_key.ensures.sorted (λ a r q k. search rules))
