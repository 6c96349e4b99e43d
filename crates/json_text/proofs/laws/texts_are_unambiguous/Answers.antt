use Rattle.json_text.proofs.Unambiguous.{texts_are_unambiguous}
use Rattle.json_text.proofs.laws.texts_are_unambiguous.Goals as goal

pub returns : goal.returns
returns c = texts_are_unambiguous
