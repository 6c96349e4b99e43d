-- Slab by slab.
use Rattle.std.proofs.Common.{arith}
use Rattle.zone_test.proofs.AddedNumbers.{none_added, one_added, up_to_last}
use Rattle.zone_test.proofs.slabs.add_number.Goals as goal

pub loop-at-init : goal.loop-at-init
loop-at-init c = none_added c.args.slabs.now.items c.args.number c.args.first

pub loop-at-preserved : goal.loop-at-preserved
loop-at-preserved c =
    one_added c.args.slabs.now.items c.args.number c.args.first c.loop-at.at c.loop-at.slabs.items c.loop-at.auto.at (let test = c.loop-at-test.true in let last = c.requires.last in omega arith) c.loop-at.invariant
    c.index_mut-slab.result.now c.push.new.self c.index_mut-slab.ensures.value c.in_ok-push.ensures.ok

pub returns : goal.returns
returns c = up_to_last c.args.slabs.now.items c.args.number c.args.first c.args.last c.loop-at.at c.loop-at.slabs.items (omega arith) c.loop-at.invariant
