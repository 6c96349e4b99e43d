use Rattle.std.proofs.Common.{arith}
use Rattle.std.proofs.lemmas.Grind.{common_steps}
use Rattle.flex_io.proofs.Stream.{written_more}
use Rattle.flex_io.proofs.host_sink.write_whole.Goals as goal

pub loop-rest-preserved : goal.loop-rest-preserved
loop-rest-preserved g c =
    written_more c.loop-rest.invariant c.in-Ok.count _ _ (grind (arith, common_steps)) c.in-Ok.ensures.bytes
