use Rattle.std.proofs.Common.{rules}
use Rattle.json_text.proofs.KindFacts.{has_array}
use Rattle.part_trials.proofs.json.items.Goals as goal

pub items-node-items-requires : goal.items-node-items-requires
items-node-items-requires c = has_array _ _ c.kind.result c.root-root.ensures.node c.kind.ensures (search rules)
