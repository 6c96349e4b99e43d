use Rattle.json_text.proofs.Children.{members_are_nodes}
use Rattle.json_text.proofs.laws.members_are_nodes.Goals as goal

pub returns : goal.returns
returns c = members_are_nodes
