use Rattle.std.proofs.Common.{arith}
use Rattle.std.proofs.lemmas.Grind.{common_steps}
use Rattle.bound_cert.specs.CertText.{part_text}
use Rattle.bound_cert.proofs.write.write_part.Goals as goal

pub returns-clause-ok : goal.returns-clause-ok
unfolding part_text
returns-clause-ok c = grind (arith, common_steps)
