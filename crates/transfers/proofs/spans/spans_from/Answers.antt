-- What stands between the two points begins at the place.
use Rattle.transfers.proofs.PlaceSpans.{spans_between}
use Rattle.transfers.proofs.spans.spans_from.Goals as goal

pub returns : goal.returns
returns c = λ span.
    spans_between c.args.spans.now c.args.place c.count_before-start.result c.count_by-end.result
    c.count_before-start.ensures.bound c.count_by-end.ensures.bound c.count_before-start.ensures.point c.count_by-end.ensures.point span
