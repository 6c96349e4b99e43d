use Rattle.std.proofs.Common.{subst}
use Rattle.json_text.specs.Node.{HasNode}
use Rattle.json_text.proofs.Content.{root_node}
use Rattle.json_text.proofs.KindFacts.{has_root}
use Rattle.json_text.proofs.json.JsonText.root.Goals as goal

pub returns-clause-node : goal.returns-clause-node
returns-clause-node c = subst (λ bytes. HasNode bytes 0) c.self.view_is (has_root 64 c.self.inside.text.now c.self.invariant.json)

pub returns-clause-value : goal.returns-clause-value
returns-clause-value c = λ text e. root_node c.args.self.now text e
