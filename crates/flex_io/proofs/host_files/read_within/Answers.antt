use Rattle.std.proofs.Common.{◌≤◌, ◌+◌, arith}
use Rattle.std.proofs.lemmas.Grind.{common_steps}
use Rattle.flex_io.proofs.Stream.{read_more}
use Rattle.flex_io.proofs.host_files.read_within.Goals as goal

pub returns-then-count-left-clause-bounded : goal.returns-then-count-left-clause-bounded
returns-then-count-left-clause-bounded g c =
    let few : c.in-Ok.count ≤ c.loop-count.left + 1 = grind (arith, common_steps) in
    read_more c.loop-count.invariant c.in-Ok.count c.read.new.buf _ c.in-Ok.ensures.bound.1 few c.in-Ok.ensures.bytes.0

pub returns-in_err-extend_from_slice-clause-bounded : goal.returns-in_err-extend_from_slice-clause-bounded
returns-in_err-extend_from_slice-clause-bounded g c =
    read_more c.loop-count.invariant c.in-Ok.count c.read.new.buf _ c.in-Ok.ensures.bound.1 (omega arith) c.in-Ok.ensures.bytes.0
