use Rattle.std.proofs.Common.{arith, rules, subst, sym, ap, ◌∙◌, ◌≤◌, ◌-◌, ◌+◌, length}
use Rattle.json_text.specs.Content.{AreRowsOf}
use Rattle.json_text.specs.Walk.{Rises, walk}
use Rattle.json_text.proofs.Content.{array_node, items_there, next_bounds, node_within, read_row, rise}
use Rattle.json_text.proofs.json.JsonText.items.Goals as goal

pub index-requires : goal.index-requires
index-requires c =
    let rows = c.self.inside.rows in
    let are = subst (λ bytes. AreRowsOf bytes rows.items) c.self.view_is c.self.invariant.rows in
    omega (arith, node_within c.args.self.now rows.items are c.args.node (array_node c.args.self.now rows.items are c.args.node c.requires), rows.ok.0)

pub overflow_add-node : goal.overflow_add-node
overflow_add-node c =
    let rows = c.self.inside.rows in
    let are = subst (λ bytes. AreRowsOf bytes rows.items) c.self.view_is c.self.invariant.rows in
    let has = array_node c.args.self.now rows.items are c.args.node c.requires in
    let there = read_row rows.items c.args.node c.index.result.now (node_within c.args.self.now rows.items are c.args.node has) c.index.ensures in
    let below = (next_bounds c.args.self.now rows.items are c.args.node c.index.result.now has there).0 in
    search rules

pub new-requires-clause-end : goal.new-requires-clause-end
new-requires-clause-end c =
    let rows = c.self.inside.rows in
    let are = subst (λ bytes. AreRowsOf bytes rows.items) c.self.view_is c.self.invariant.rows in
    let has = array_node c.args.self.now rows.items are c.args.node c.requires in
    let there = read_row rows.items c.args.node c.index.result.now (node_within c.args.self.now rows.items are c.args.node has) c.index.ensures in
    subst (λ z. c.index.result.now.next ≤ length z) (sym c.deref.ensures.value) (next_bounds c.args.self.now rows.items are c.args.node c.index.result.now has there).1

pub new-requires-clause-rises : goal.new-requires-clause-rises
new-requires-clause-rises c =
    let rows = c.self.inside.rows in
    let are = subst (λ bytes. AreRowsOf bytes rows.items) c.self.view_is c.self.invariant.rows in
    subst Rises (sym c.deref.ensures.value) (rise c.args.self.now rows.items are c.args.node (array_node c.args.self.now rows.items are c.args.node c.requires))

pub returns : goal.returns
returns c = λ place between is.
    let rows = c.self.inside.rows in
    let are = subst (λ bytes. AreRowsOf bytes rows.items) c.self.view_is c.self.invariant.rows in
    let has = array_node c.args.self.now rows.items are c.args.node c.requires in
    let row = c.index.result.now in
    let there = read_row rows.items c.args.node row (node_within c.args.self.now rows.items are c.args.node has) c.index.ensures in
    c.new.ensures ∙ ap (λ z. walk z (row.next - (c.args.node + 1)) (c.args.node + 1) row.next) c.deref.ensures.value
    ∙ items_there c.args.self.now rows.items are c.args.node place between row is there
