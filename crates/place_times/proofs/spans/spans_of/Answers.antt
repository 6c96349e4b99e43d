use Rattle.std.proofs.Common.{map}
use Rattle.std.specs.Prelude.{IsPermutation, IsSortedBy}
use Rattle.feed_meaning.specs.Tables.{entries_of}
use Rattle.feed_meaning.specs.TimesValue.{point_of, span_before}
use Rattle.place_times.proofs.AcceptedSpans.{both_weaker, accepted_spans}
use Rattle.place_times.proofs.spans.spans_of.Goals as goal

pub returns : goal.returns
returns c =
    let es = entries_of c.args.table.now in
    both_weaker c.in_order.result (IsPermutation c.in_ok-spans.spans.items) (IsSortedBy span_before) _
    (λ spans moved sorted feed points file are accepted.
    accepted_spans feed points file c.args.most es c.in_ok-spans.spans.items spans accepted (c.in_ok-spans.ensures feed (map point_of points) are) moved sorted)
    c.in_order.ensures.moved c.in_order.ensures.sorted
