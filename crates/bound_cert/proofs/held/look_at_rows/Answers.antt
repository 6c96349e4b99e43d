use Rattle.std.proofs.Common.{◌<◌, ◌^◌}
use Rattle.bound_cert.proofs.Taken.{taken_all, taken_next}
use Rattle.bound_cert.proofs.held.look_at_rows.Goals as goal

pub loop-i-preserved : goal.loop-i-preserved
loop-i-preserved c =
    taken_next (λ row. row.sequence < 2 ^ 32) c.args.rows.now c.loop-i.i _ c.loop-i-test.true c.loop-i.invariant c.sequence_of-sequence.ensures

pub returns : goal.returns
returns c = taken_all (λ row. row.sequence < 2 ^ 32) c.args.rows.now c.loop-i.i c.loop-i-test.false c.loop-i.invariant
