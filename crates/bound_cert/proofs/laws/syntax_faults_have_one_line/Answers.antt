use Rattle.bound_cert.proofs.OneLine.{one_line}
use Rattle.bound_cert.proofs.laws.syntax_faults_have_one_line.Goals as goal

pub returns : goal.returns
returns c = one_line
