use Rattle.std.proofs.Common.{sym, ap, ◌∙◌}
use Rattle.field_text.specs.Grammars.{date}
use Rattle.field_text.proofs.DateLemmas.{printable_if_read}
use Rattle.field_text.proofs.date.read_date.Goals as goal

pub returns-clause-bound : goal.returns-clause-bound
returns-clause-bound c = printable_if_read c.args.text.now c.ok_or.result (sym c.ok_or.ensures.ok_part ∙ c.day_of.ensures ∙ ap date c.as_bytes.ensures.value)
