use Rattle.std.proofs.Common.{arith}
use Rattle.std.proofs.lemmas.Grind.{common_steps}
use Rattle.bound_cert.proofs.WrittenRounds.{rounds_more, rounds_none}
use Rattle.bound_cert.proofs.write.write_rounds.Goals as goal

pub loop-i-init : goal.loop-i-init
loop-i-init c = rounds_none c.args.feed.now c.args.times.now c.args.walking c.args.rounds.now c.args.into.now

pub loop-i-preserved : goal.loop-i-preserved
loop-i-preserved c =
    let more = rounds_more c.args.feed.now c.args.times.now c.args.walking c.args.rounds.now c.loop-i.i c.index-rounds-i.result c.args.into.now c.loop-i.into
    c.loop-i-test.true c.index-rounds-i.is c.loop-i.invariant in
    grind (arith, common_steps, more)
