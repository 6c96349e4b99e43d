use Rattle.std.proofs.Common.{get_or, length, refl, ap, subst, arith}
use Rattle.cert_check.specs.Numbers.{AllTo}
use Rattle.cert_check.specs.Ways.{IsUnheldNext}
use Rattle.cert_check.proofs.FoundTests.{HasRides, rides_none, rides_some}
use Rattle.cert_check.proofs.LabelTables.{label_at, no_label}
use Rattle.cert_check.proofs.Numbered.{all_to_read}
use Rattle.cert_check.proofs.ways.uncovered_after.Goals as goal

pub returns-in-Some : goal.returns-in-Some
returns-in-Some c =
    let task = c.args.task.now in
    rides_some task c.requires.first c.loop-i.i c.number_at.result (get_or c.args.labels.now c.loop-i.i no_label) c.in-Some.ride c.number_at.ensures
    (label_at task.part.now c.args.labels.now c.loop-i.i c.requires.labels c.loop-i-test.true)
    (subst (IsUnheldNext task (get_or c.args.labels.now c.loop-i.i no_label)) c.in-Some.is c.in_ok-ride.ensures)
    (subst (λ labels. AllTo (HasRides task) labels c.loop-i.i) c.requires.labels c.loop-i.invariant)

pub loop-i-preserved : goal.loop-i-preserved
loop-i-preserved c =
    let labels = c.args.labels.now in
    all_to_read (HasRides c.args.task.now) labels c.loop-i.i (get_or labels c.loop-i.i no_label) no_label refl
    c.loop-i.invariant (subst (IsUnheldNext c.args.task.now (get_or labels c.loop-i.i no_label)) c.in_default.is c.in_ok-ride.ensures)

pub returns : goal.returns
returns c =
    let task = c.args.task.now in
    let size = ap length c.requires.labels in
    rides_none task c.requires.first c.loop-i.i (omega (arith, size)) (subst (λ labels. AllTo (HasRides task) labels c.loop-i.i) c.requires.labels c.loop-i.invariant)
