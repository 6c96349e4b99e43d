use Rattle.field_text.proofs.MomentRanges.{moments_are_read_back}
use Rattle.field_text.proofs.laws.moments_are_read_back.Goals as goal

pub returns : goal.returns
returns c = moments_are_read_back
