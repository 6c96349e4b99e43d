use Rattle.query_io.proofs.PrintedAnswers.{exact_printable}
use Rattle.query_io.proofs.laws.exact_answers_are_printable.Goals as goal

pub returns : goal.returns
returns c = exact_printable
