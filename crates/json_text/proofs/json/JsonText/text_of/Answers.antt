use Rattle.std.proofs.Common.{arith, subst, sym, ap, ◌∙◌, ◌-◌, get_or, None}
use Rattle.std.specs.Option.{option_copied}
use Rattle.json_text.specs.Content.{AreRowsOf, HasStringAt, HasText, text_or}
use Rattle.json_text.proofs.Content.{kind_there, node_within, read_row, reads, string_there, text_reads, string_node}
use Rattle.json_text.proofs.Quoted.{quoted_facts}
use Rattle.json_text.proofs.json.JsonText.text_of.Goals as goal

pub index-row-requires : goal.index-row-requires
index-row-requires c =
    let rows = c.self.inside.rows in
    let now = c.args.self.now in
    let are = subst (λ bytes. AreRowsOf bytes rows.items) c.self.view_is c.self.invariant.rows in
    omega (arith, node_within now rows.items are c.args.node (string_node now rows.items are c.args.node c.requires), rows.ok.0)

pub get-copy-requires : goal.get-copy-requires
get-copy-requires c =
    let rows = c.self.inside.rows in
    let now = c.args.self.now in
    let are = subst (λ bytes. AreRowsOf bytes rows.items) c.self.view_is c.self.invariant.rows in
    omega (arith, node_within now rows.items are c.args.node (string_node now rows.items are c.args.node c.requires), c.self.invariant.copies.text_count)

pub overflow_sub-row : goal.overflow_sub-row
overflow_sub-row c =
    let rows = c.self.inside.rows in
    let now = c.args.self.now in
    let are = subst (λ bytes. AreRowsOf bytes rows.items) c.self.view_is c.self.invariant.rows in
    let has = string_node now rows.items are c.args.node c.requires in
    let there = read_row rows.items c.args.node c.index-row.result.now (node_within now rows.items are c.args.node has) c.index-row.ensures in
    let q = string_there now rows.items are c.args.node c.requires.0 c.requires.1 c.index-row.result.now c.requires.2 there in
    omega (arith, (quoted_facts now c.requires.1 c.index-row.result.now.place _ q).order)

pub text_or-requires : goal.text_or-requires
text_or-requires c =
    let rows = c.self.inside.rows in
    let now = c.args.self.now in
    let are = subst (λ bytes. AreRowsOf bytes rows.items) c.self.view_is c.self.invariant.rows in
    let has = string_node now rows.items are c.args.node c.requires in
    let there = read_row rows.items c.args.node c.index-row.result.now (node_within now rows.items are c.args.node has) c.index-row.ensures in
    let row = c.index-row.result.now in
    subst (λ z. HasStringAt z row.place (row.end - 1)) (sym c.self.view_is)
    (c.requires.1, string_there now rows.items are c.args.node c.requires.0 c.requires.1 row c.requires.2 there)

pub returns : goal.returns
returns c = λ place marks is.
    let rows = c.self.inside.rows in
    let now = c.args.self.now in
    let are = subst (λ bytes. AreRowsOf bytes rows.items) c.self.view_is c.self.invariant.rows in
    let has = string_node now rows.items are c.args.node c.requires in
    let there = read_row rows.items c.args.node c.index-row.result.now (node_within now rows.items are c.args.node has) c.index-row.ensures in
    let row = c.index-row.result.now in
    let kind = kind_there now rows.items are c.args.node _ row is there in
    let kept = subst (λ z. HasText z row (get_or c.self.inside.strings.texts c.args.node None)) c.self.view_is (c.self.invariant.copies.texts c.args.node row (node_within now rows.items are c.args.node has) there) in
    let read = text_reads now row (option_copied c.get-copy.result) (get_or c.self.inside.strings.texts c.args.node None) c.text_or.result.now (c.text_or.ensures ∙ ap (λ z. text_or z row.place (row.end - 1) (option_copied c.get-copy.result)) c.self.view_is) c.get-copy.ensures kept kind in
    reads now marks row.place (row.end - 1) c.text_or.result.now (string_there now rows.items are c.args.node place marks row is there) read
