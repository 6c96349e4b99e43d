use Rattle.flexplan.proofs.Accepted.{accepted_certificates}
use Rattle.flexplan.proofs.laws.certificates_are_accepted.Goals as goal

pub returns : goal.returns
returns c = accepted_certificates
