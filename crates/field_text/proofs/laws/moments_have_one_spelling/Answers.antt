use Rattle.field_text.proofs.MomentSpelling.{moments_have_one_spelling}
use Rattle.field_text.proofs.laws.moments_have_one_spelling.Goals as goal

pub returns : goal.returns
returns c = moments_have_one_spelling
