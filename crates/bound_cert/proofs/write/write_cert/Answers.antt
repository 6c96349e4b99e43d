use Rattle.std.proofs.Common.{arith}
use Rattle.std.proofs.lemmas.Grind.{common_steps}
use Rattle.bound_cert.specs.CertText.{cert_text}
use Rattle.bound_cert.proofs.write.write_cert.Goals as goal

pub returns : goal.returns
unfolding cert_text
returns c = grind (arith, common_steps)
