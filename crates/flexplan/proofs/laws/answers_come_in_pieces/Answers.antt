use Rattle.flexplan.proofs.Pieces.{in_pieces}
use Rattle.flexplan.proofs.laws.answers_come_in_pieces.Goals as goal

pub returns : goal.returns
returns c = in_pieces
