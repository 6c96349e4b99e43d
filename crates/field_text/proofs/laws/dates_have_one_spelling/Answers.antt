use Rattle.field_text.proofs.DateLemmas.{dates_have_one_spelling}
use Rattle.field_text.proofs.laws.dates_have_one_spelling.Goals as goal

pub returns : goal.returns
returns c = dates_have_one_spelling
