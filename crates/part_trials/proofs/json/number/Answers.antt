use Rattle.std.proofs.Common.{rules}
use Rattle.json_text.proofs.KindFacts.{found_node, has_number, has_object}
use Rattle.part_trials.proofs.json.number.Goals as goal

pub member-requires : goal.member-requires
member-requires c = has_object _ _ c.kind.result c.root-root.ensures.node c.kind.ensures (search rules)

pub kind-requires-2 : goal.kind-requires-2
kind-requires-2 c =
    let object = has_object _ _ c.kind.result c.root-root.ensures.node c.kind.ensures (search rules) in
    found_node _ c.args.name.now c.root-root.result object.0 c.in-Some.node object.1 object.2 (c.in-Some.ensures object.0 object.1 object.2)

pub number_of-requires : goal.number_of-requires
number_of-requires c =
    let object = has_object _ _ c.kind.result c.root-root.ensures.node c.kind.ensures (search rules) in
    has_number _ _ c.kind-2.result (found_node _ c.args.name.now c.root-root.result object.0 c.in-Some.node object.1 object.2 (c.in-Some.ensures object.0 object.1 object.2)) c.kind-2.ensures (search rules)
