use Rattle.field_text.proofs.EscapeLemmas.{escapes_are_of_one_id}
use Rattle.field_text.proofs.laws.escapes_are_of_one_id.Goals as goal

pub returns : goal.returns
returns c = escapes_are_of_one_id
