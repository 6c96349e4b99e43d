use Rattle.flex_model.proofs.Walks.{uncounted_nothing}
use Rattle.flex_model.proofs.laws.uncounted_walks_are_nothing.Goals as goal

pub returns : goal.returns
returns c = uncounted_nothing
