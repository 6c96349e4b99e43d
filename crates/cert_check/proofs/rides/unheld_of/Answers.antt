use Rattle.cert_check.proofs.HeldRides.{one_more_held, rest_held}
use Rattle.cert_check.proofs.rides.unheld_of.Goals as goal

pub loop-number-preserved : goal.loop-number-preserved
loop-number-preserved c =
    one_more_held c.args.task.now c.args.boarded.now c.args.run.now c.loop-number.number c.loop-number.invariant
    (c.is_nth_held.ensures.0 c.if-not-is_nth_held.false)

pub returns-then-is_last_booked : goal.returns-then-is_last_booked
returns-then-is_last_booked c = λ k lt.
    rest_held c.args.task.now c.args.boarded.now c.args.run.now c.loop-number.number c.loop-number.invariant
    (c.is_nth_held.ensures.0 c.if-not-is_nth_held.false) (c.is_last_booked.ensures c.if-is_last_booked.true) k
