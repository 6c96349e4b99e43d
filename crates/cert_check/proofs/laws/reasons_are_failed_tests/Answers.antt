use Rattle.cert_check.proofs.ValidParts.{reasons_fail}
use Rattle.cert_check.proofs.laws.reasons_are_failed_tests.Goals as goal

pub returns : goal.returns
returns c = reasons_fail
