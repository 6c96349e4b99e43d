use Rattle.std.proofs.Common.{refl, subst, rules}
use Rattle.std.specs.List.Sorted.{IsPermutation}
use Rattle.std.proofs.lemmas.List.Sorted.{IsNonDecreasingBy-from_sort_by_key}
use Rattle.feed_load.specs.WholeTrips.{AreRowsOf}
use Rattle.feed_load.specs.declared.drafts.Draft.{Draft}
use Rattle.feed_load.proofs.whole_trips.whole_trip.Goals as goal

pub returns : goal.returns
returns c = record {
  id = refl;
  service = refl;
  frequent = search rules;
  repeats = refl;
  sorted = c.sort_by_key.new.self.items;
  moved = subst (λ xs. IsPermutation xs c.sort_by_key.new.self.items) c.into_vec-drafts.ensures c.in_ok-sort_by_key.ensures.permutation;
  rising = IsNonDecreasingBy-from_sort_by_key (λ (draft : Draft). draft.sequence) c.sort_by_key.new.self.items c.in_ok-sort_by_key.ensures.sorted (λ a r q k. search rules);
  rows = subst (λ xs. AreRowsOf xs c.in_ok-rows.rows) c.as_slice.ensures.value c.in_ok-rows.ensures;
}
