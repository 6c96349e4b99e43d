-- What stands between the two points stands at the place.
use Rattle.cert_check.proofs.PlaceOrder.{labels_between}
use Rattle.cert_check.proofs.labels.labels_at.Goals as goal

pub returns : goal.returns
returns c = λ label.
    labels_between c.args.labels.now c.args.place c.count_before-start.result c.count_by-end.result
    c.count_before-start.ensures.bound c.count_by-end.ensures.bound c.count_before-start.ensures.point c.count_by-end.ensures.point label
