use Rattle.flex_io.proofs.Stream.{HasRead}
use Rattle.flex_io.proofs.host_files.read_within.Given as goal

abbrev pub invariant-loop-count : goal.invariant-loop-count
invariant-loop-count g l =
    let remaining = g.F.Read.remaining in
    HasRead l.limit l.left l.fn.into.items l.into.items (remaining l.fn.file) (remaining l.file)

abbrev pub decreases-loop-count : goal.decreases-loop-count
decreases-loop-count g l = l.left
