use Rattle.json_text.proofs.Innermost.{after_value_in}
use Rattle.json_text.proofs.moves.after_value.Goals as goal

pub returns-in-Some : goal.returns-in-Some
returns-in-Some c = λ stack k. after_value_in _ stack _ _ _ c.in-Some.is k c.after_part.ensures
