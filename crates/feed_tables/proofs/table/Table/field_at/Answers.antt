use Rattle.std.proofs.Common.{◌≡◌, ◌<◌, ◌-◌, ◌+◌, ◌∙◌, sym, ap, length, get_or, arith, [], ℕ, List}
use Rattle.std.proofs.lemmas.List.{get_or_default}
use Rattle.feed_tables.proofs.TableFacts.{end-order, field-of-part, length-parts}
use Rattle.feed_tables.proofs.table.Table.field_at.Goals as goal

pub index-start-requires : goal.index-start-requires
index-start-requires c =
    let size = length-parts 0 c.self.inside.ends.items (c.self.inside.pool) in
    omega (arith, c.self.inside.ends.ok.0, size, ap length c.self.view_is, c.requires.low, c.requires.high)

pub index-requires : goal.index-requires
index-requires c =
    let size = length-parts 0 c.self.inside.ends.items (c.self.inside.pool) in
    omega (arith, c.self.inside.ends.ok.0, size, ap length c.self.view_is, c.requires.high)

-- the value at an index, whatever the default
read : (xs : List ℕ) (i x : ℕ) → x ≡ get_or xs i x → i < length xs → x ≡ get_or xs i 0
read xs i x e lt = e ∙ get_or_default xs i x 0 lt

pub overflow_sub-width : goal.overflow_sub-width
overflow_sub-width c =
    let ends = c.self.inside.ends.items in
    let size = length-parts 0 ends (c.self.inside.pool) in
    let view = ap length c.self.view_is in
    let high : c.args.index < length ends = omega (arith, size, view, c.requires.high) in
    let low : c.args.index - 1 < length ends = omega (arith, high) in
    let step : (c.args.index - 1) + 1 ≡ c.args.index = omega (arith, c.requires.low) in
    let order = rw step at (end-order 0 ends _ (c.args.index - 1) c.self.invariant.cut (omega (arith, high, c.requires.low))) in
    omega (arith, read ends _ _ c.index-start.ensures low, read ends _ _ c.index.ensures high, order)

pub returns-then-column-width : goal.returns-then-column-width
returns-then-column-width c =
    let ends = c.self.inside.ends.items in
    let size = length-parts 0 ends (c.self.inside.pool) in
    let view = ap length c.self.view_is in
    let high : c.args.index < length ends = omega (arith, size, view, c.requires.high) in
    let low : c.args.index - 1 < length ends = omega (arith, high) in
    let field = field-of-part ends (c.self.inside.pool) c.args.index c.args.column c.requires.low high in
    let none = field.1 (omega (arith, read ends _ _ c.index-start.ensures low, read ends _ _ c.index.ensures high, c.if-column-width.true)) in
    sym (ap (λ rows. get_or (get_or rows c.args.index []) c.args.column []) (sym c.self.view_is) ∙ none)

pub returns : goal.returns
returns c =
    let ends = c.self.inside.ends.items in
    let pool = c.self.inside.pool in
    let size = length-parts 0 ends pool in
    let view = ap length c.self.view_is in
    let high : c.args.index < length ends = omega (arith, size, view, c.requires.high) in
    let low : c.args.index - 1 < length ends = omega (arith, high) in
    let start = read ends _ _ c.index-start.ensures low in
    let field = field-of-part ends pool c.args.index c.args.column c.requires.low high in
    let some = field.0 (omega (arith, start, read ends _ _ c.index.ensures high, c.if-column-width.false)) in
    c.get.ensures ∙ ap (λ n. get_or pool (n + c.args.column) []) start ∙ sym (ap (λ rows. get_or (get_or rows c.args.index []) c.args.column []) (sym c.self.view_is) ∙ some)
