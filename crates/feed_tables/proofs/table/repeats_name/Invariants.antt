use Rattle.std.proofs.Common.{◌≡◌, ◌-◌, ℕ, List, drop, false, filter, length}
use Rattle.std.specs.BTreeMap.{get_by}
use Rattle.std.specs.Cmp.Lexicographic.{slice_cmp}
use Rattle.std.specs.List.{list_any}
use Rattle.std.specs.Option.{is_some}
use Rattle.std.specs.Ordering.{nat_cmp}
use Rattle.std.specs.Str.{bytes_eq}
use Rattle.feed_tables.specs.Refusals.{has_duplicate, is_given}
use Rattle.feed_tables.proofs.table.repeats_name.Given as goal

abbrev pub invariant-loop-back : goal.invariant-loop-back
invariant-loop-back l = record {
  none : has_duplicate (filter is_given (drop (length l.header - l.back) l.header)) ≡ false;
  names : (q : List ℕ) → is_some (get_by (λ k. slice_cmp nat_cmp q k.now) l.later)
      ≡ list_any (bytes_eq q) (filter is_given (drop (length l.header - l.back) l.header));
}
