use Rattle.std.proofs.Common.{◌≡◌, ◌↔◌, List, Contains, subst}
use Rattle.flex_model.specs.declared.times.Span.{Span}
use Rattle.cert_check.specs.Ways.{IsUnheldAccess}
use Rattle.cert_check.proofs.WaysHeld.{first_of_walks}
use Rattle.cert_check.proofs.ways.unheld_first.Goals as goal

pub returns : goal.returns
returns c =
    let task = c.args.task.now in
    let walks = c.spans_from-walks.result.now in
    first_of_walks task walks
    (λ span. subst (λ (xs : List Span). Contains walks span ↔ (Contains xs span × (span.from ≡ task.query.now.origin))) c.as_slice.ensures (c.spans_from-walks.ensures span))
    (subst (IsUnheldAccess task task.query.now.origin) c.in_default.is c.in_ok-ride.ensures)
    c.in_ok-ride-2.ride c.in_ok-ride-2.ensures
