-- What a proof unfolds to compute the definitions on literal bytes.
use Rattle.std.specs.Prelude.{⊤}
use Rattle.jiff_core.specs.Calendar.{day_count, days_from_civil, days_of_months, days_of_years}
use Rattle.field_text.specs.Grammars.{is_shaped}

unfoldable pub field_text_on_literals : ⊤
unfolding is_shaped day_count days_from_civil days_of_months days_of_years
field_text_on_literals = tt
