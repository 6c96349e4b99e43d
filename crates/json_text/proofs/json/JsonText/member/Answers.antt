use Rattle.std.proofs.Common.{arith, rules, subst, sym, ◌≤◌, ◌+◌, length}
use Rattle.json_text.specs.Content.{AreRowsOf}
use Rattle.json_text.specs.Node.{object_members}
use Rattle.json_text.specs.Walk.{AreMembers, Rises}
use Rattle.json_text.proofs.Content.{members_there, next_bounds, node_within, object_node, read_row, rise}
use Rattle.json_text.proofs.json.JsonText.member.Goals as goal

pub index-requires : goal.index-requires
index-requires c =
    let rows = c.self.inside.rows in
    let now = c.args.self.now in
    let are = subst (λ bytes. AreRowsOf bytes rows.items) c.self.view_is c.self.invariant.rows in
    omega (arith, node_within now rows.items are c.args.node (object_node now rows.items are c.args.node c.requires), rows.ok.0)

pub overflow_add-node : goal.overflow_add-node
overflow_add-node c =
    let rows = c.self.inside.rows in
    let now = c.args.self.now in
    let are = subst (λ bytes. AreRowsOf bytes rows.items) c.self.view_is c.self.invariant.rows in
    let has = object_node now rows.items are c.args.node c.requires in
    let there = read_row rows.items c.args.node c.index.result.now (node_within now rows.items are c.args.node has) c.index.ensures in
    let below = (next_bounds now rows.items are c.args.node c.index.result.now has there).0 in
    search rules

pub first_named-requires-clause-rises : goal.first_named-requires-clause-rises
first_named-requires-clause-rises c =
    let rows = c.self.inside.rows in
    let now = c.args.self.now in
    let are = subst (λ bytes. AreRowsOf bytes rows.items) c.self.view_is c.self.invariant.rows in
    subst Rises (sym c.deref.ensures.value) (rise now rows.items are c.args.node (object_node now rows.items are c.args.node c.requires))

pub first_named-requires-clause-within : goal.first_named-requires-clause-within
first_named-requires-clause-within c =
    let rows = c.self.inside.rows in
    let now = c.args.self.now in
    let are = subst (λ bytes. AreRowsOf bytes rows.items) c.self.view_is c.self.invariant.rows in
    let has = object_node now rows.items are c.args.node c.requires in
    let there = read_row rows.items c.args.node c.index.result.now (node_within now rows.items are c.args.node has) c.index.ensures in
    subst (λ z. c.index.result.now.next ≤ length z) (sym c.deref.ensures.value) (next_bounds now rows.items are c.args.node c.index.result.now has there).1

pub first_named-requires-clause-members : goal.first_named-requires-clause-members
first_named-requires-clause-members c =
    let rows = c.self.inside.rows in
    let now = c.args.self.now in
    let are = subst (λ bytes. AreRowsOf bytes rows.items) c.self.view_is c.self.invariant.rows in
    let has = object_node now rows.items are c.args.node c.requires in
    let there = read_row rows.items c.args.node c.index.result.now (node_within now rows.items are c.args.node has) c.index.ensures in
    let members = object_members c.requires.1 c.args.node c.requires.0 in (
      members,
      subst (λ z. AreMembers z c.self.inside.text.now members (c.args.node + 1) c.index.result.now.next) (sym c.deref.ensures.value)
          (subst (λ z. AreMembers rows.items z members (c.args.node + 1) c.index.result.now.next) (sym c.self.view_is)
          (members_there now rows.items are c.args.node c.requires.0 c.requires.1 c.index.result.now c.requires.2 there)),
    )

pub returns : goal.returns
returns c = λ place between is.
    let rows = c.self.inside.rows in
    let now = c.args.self.now in
    let are = subst (λ bytes. AreRowsOf bytes rows.items) c.self.view_is c.self.invariant.rows in
    let has = object_node now rows.items are c.args.node c.requires in
    let there = read_row rows.items c.args.node c.index.result.now (node_within now rows.items are c.args.node has) c.index.ensures in
    let members = object_members between c.args.node place in
    c.first_named.ensures members
    (subst (λ z. AreMembers z c.self.inside.text.now members (c.args.node + 1) c.index.result.now.next) (sym c.deref.ensures.value)
    (subst (λ z. AreMembers rows.items z members (c.args.node + 1) c.index.result.now.next) (sym c.self.view_is)
    (members_there now rows.items are c.args.node place between c.index.result.now is there)))
