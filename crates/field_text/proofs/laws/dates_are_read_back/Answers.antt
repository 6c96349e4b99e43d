use Rattle.field_text.proofs.CivilDays.{dates_are_read_back}
use Rattle.field_text.proofs.laws.dates_are_read_back.Goals as goal

pub returns : goal.returns
returns c = dates_are_read_back
