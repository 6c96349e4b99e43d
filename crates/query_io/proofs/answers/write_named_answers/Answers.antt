use Rattle.std.proofs.Common.{arith}
use Rattle.std.proofs.lemmas.Grind.{common_steps}
use Rattle.query_io.specs.AnswerText.{named_answers_text}
use Rattle.query_io.proofs.answers.write_named_answers.Goals as goal

pub returns-clause-ok : goal.returns-clause-ok
unfolding named_answers_text
returns-clause-ok c = grind (arith, common_steps)
