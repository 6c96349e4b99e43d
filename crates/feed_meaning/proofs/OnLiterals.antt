-- What a proof unfolds to compute the definitions on literal bytes.
use Rattle.std.specs.Prelude.{⊤}
use Rattle.std.specs.Str.Lossy.{utf8_valid_len}
use Rattle.feed_tables.proofs.OnLiterals.{tables_on_literals}
use Rattle.field_text.proofs.OnLiterals.{field_text_on_literals}
use Rattle.feed_meaning.specs.Tables.{with_earlier_from}

unfoldable pub feed_on_literals : ⊤
unfolding tables_on_literals field_text_on_literals utf8_valid_len with_earlier_from
feed_on_literals = tt
