use Rattle.std.proofs.Common.{arith, subst, ◌∙◌}
use Rattle.json_text.specs.Content.{AreRowsOf}
use Rattle.json_text.proofs.Content.{node_within, place_there, read_row}
use Rattle.json_text.proofs.json.JsonText.place.Goals as goal

pub index-requires : goal.index-requires
index-requires c =
    let rows = c.self.inside.rows in
    let are = subst (λ bytes. AreRowsOf bytes rows.items) c.self.view_is c.self.invariant.rows in
    omega (arith, node_within c.args.self.now rows.items are c.args.node c.requires, rows.ok.0)

pub returns : goal.returns
returns c = λ is there.
    let rows = c.self.inside.rows in
    let are = subst (λ bytes. AreRowsOf bytes rows.items) c.self.view_is c.self.invariant.rows in
    let row = c.index.result.now in
    c.from.ensures ∙ place_there c.args.self.now rows.items are c.args.node is row there (read_row rows.items c.args.node row (node_within c.args.self.now rows.items are c.args.node c.requires) c.index.ensures)
