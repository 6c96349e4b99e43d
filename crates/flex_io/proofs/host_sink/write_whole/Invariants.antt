use Rattle.std.proofs.Common.{length}
use Rattle.flex_io.proofs.Stream.{HasWritten}
use Rattle.flex_io.proofs.host_sink.write_whole.Given as goal

abbrev pub invariant-loop-rest : goal.invariant-loop-rest
invariant-loop-rest g l =
    let contents = g.W.Write.contents in
    HasWritten l.piece l.rest (contents l.fn.stream) (contents l.stream)

abbrev pub decreases-loop-rest : goal.decreases-loop-rest
decreases-loop-rest g l = length l.rest
