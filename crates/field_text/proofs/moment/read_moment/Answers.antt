use Rattle.std.proofs.Common.{sym, ap, ◌∙◌}
use Rattle.field_text.specs.Grammars.{moment}
use Rattle.field_text.proofs.MomentSpelling.{printable_if_read}
use Rattle.field_text.proofs.moment.read_moment.Goals as goal

pub returns-clause-bound : goal.returns-clause-bound
returns-clause-bound c = printable_if_read c.args.text.now c.ok_or.result (sym c.ok_or.ensures.ok_part ∙ c.moment_of.ensures ∙ ap (moment 1980 2209) c.as_bytes.ensures.value)
