use Rattle.std.proofs.Common.{arith}
use Rattle.std.specs.FinSet.{members}
use Rattle.std.proofs.lemmas.Grind.{common_steps}
use Rattle.flex_io.proofs.mem_files.MemFilesFiles.fetch.Goals as goal

pub returns-then-fails_at-clause-steady : goal.returns-then-fails_at-clause-steady
returns-then-fails_at-clause-steady c = grind (arith, common_steps, members)
