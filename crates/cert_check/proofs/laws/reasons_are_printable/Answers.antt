use Rattle.cert_check.proofs.PrintedReasons.{reasons_printable}
use Rattle.cert_check.proofs.laws.reasons_are_printable.Goals as goal

pub returns : goal.returns
returns c = reasons_printable
