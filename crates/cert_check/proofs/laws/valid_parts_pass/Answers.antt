use Rattle.cert_check.proofs.ValidParts as lemmas
use Rattle.cert_check.proofs.laws.valid_parts_pass.Goals as goal

pub returns : goal.returns
returns c = lemmas.valid_parts_pass
