use Rattle.flex_model.proofs.Walks.{short_walks}
use Rattle.flex_model.proofs.laws.walks_are_short.Goals as goal

pub returns : goal.returns
returns c = short_walks
