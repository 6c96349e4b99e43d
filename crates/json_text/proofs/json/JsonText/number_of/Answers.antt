use Rattle.std.proofs.Common.{arith, subst, sym, ap, ◌∙◌, slice_range}
use Rattle.json_text.specs.Content.{AreRowsOf, HasNumberAt}
use Rattle.json_text.proofs.Content.{has_number_at, node_within, number_node, number_there, read_row}
use Rattle.json_text.proofs.json.JsonText.number_of.Goals as goal

pub index-row-requires : goal.index-row-requires
index-row-requires c =
    let rows = c.self.inside.rows in
    let now = c.args.self.now in
    let are = subst (λ bytes. AreRowsOf bytes rows.items) c.self.view_is c.self.invariant.rows in
    omega (arith, node_within now rows.items are c.args.node (number_node now rows.items are c.args.node c.requires), rows.ok.0)

pub number_text-requires : goal.number_text-requires
number_text-requires c =
    let rows = c.self.inside.rows in
    let now = c.args.self.now in
    let are = subst (λ bytes. AreRowsOf bytes rows.items) c.self.view_is c.self.invariant.rows in
    let has = number_node now rows.items are c.args.node c.requires in
    let there = read_row rows.items c.args.node c.index-row.result.now (node_within now rows.items are c.args.node has) c.index-row.ensures in
    let row = c.index-row.result.now in
    subst (λ z. HasNumberAt z row.place row.end) (sym c.self.view_is) (has_number_at now rows.items are c.args.node c.requires.0 c.requires.1 row c.requires.2 there)

pub returns : goal.returns
returns c = λ place n is.
    let rows = c.self.inside.rows in
    let now = c.args.self.now in
    let are = subst (λ bytes. AreRowsOf bytes rows.items) c.self.view_is c.self.invariant.rows in
    let has = number_node now rows.items are c.args.node c.requires in
    let there = read_row rows.items c.args.node c.index-row.result.now (node_within now rows.items are c.args.node has) c.index-row.ensures in
    let row = c.index-row.result.now in
    c.number_text.ensures ∙ ap (λ z. slice_range z row.place row.end) c.self.view_is
    ∙ (number_there now rows.items are c.args.node place n row is there).text
