use Rattle.json_text.proofs.Children.{items_are_nodes}
use Rattle.json_text.proofs.laws.items_are_nodes.Goals as goal

pub returns : goal.returns
returns c = items_are_nodes
