use Rattle.std.proofs.Common.{rules, ap, sym, subst}
use Rattle.std.specs.Prelude.{IsPermutation, IsSortedBy}
use Rattle.std.specs.Ordering.{is_lt}
use Rattle.std.proofs.lemmas.Fn.{always_returns_same}
use Rattle.feed_meaning.specs.TimesValue.{span_before}
use Rattle.place_times.proofs.SpanOrder.{span_order}
use Rattle.place_times.proofs.spans.in_order.Goals as goal

pub returns-clause-moved : goal.returns-clause-moved
returns-clause-moved c = subst (IsPermutation c.args.spans.items) (sym c.from_vec.ensures) c.in_ok-sort_by.ensures.permutation

pub returns-clause-sorted : goal.returns-clause-sorted
returns-clause-sorted c =
    subst (IsSortedBy span_before) (sym c.from_vec.ensures)
    (c.in_ok-sort_by.ensures.sorted span_before span_order (always_returns_same _ _ _ (λ a r g called. (ap is_lt (search rules), search rules))))
