use Rattle.std.proofs.Common.{◌≡◌, ◌<◌, ◌∙◌, ◌-◌, take, drop, [], ℕ, List, sym, ap, length, get_or, arith}
use Rattle.std.specs.Prelude.{string_bytes}
use Rattle.std.proofs.lemmas.List.{get_or_default, get_or_past}
use Rattle.feed_tables.proofs.Pools.{part-at, start-low}
use Rattle.feed_tables.proofs.TableFacts.{length-parts}
use Rattle.feed_tables.proofs.pool.Pool.get.Goals as goal

pub returns-then-index-len : goal.returns-then-index-len
returns-then-index-len c =
    let size = length-parts 0 c.self.inside.ends.items (string_bytes c.self.inside.buffer) in
    sym (get_or_past c.args.self.now c.args.index [] (omega (arith, size, ap length c.self.view_is, c.len.ensures, c.self.inside.ends.ok.0, c.if-index-len.true)))

-- the value at an index, whatever the default
read : (xs : List ℕ) (i x : ℕ) → x ≡ get_or xs i x → i < length xs → x ≡ get_or xs i 0
read xs i x e lt = e ∙ get_or_default xs i x 0 lt

pub range-requires-clause-start_le_end : goal.range-requires-clause-start_le_end
range-requires-clause-start_le_end c =
    let ends = c.self.inside.ends.items in
    let lt : c.args.index < length ends = omega (arith, c.len.ensures, c.self.inside.ends.ok.0, c.if-index-len.false) in
    omega (arith, c.start_of-start.ensures, read ends _ _ c.index-end.ensures lt, start-low ends _ c.args.index c.self.invariant.rising lt)

pub returns : goal.returns
returns c =
    let ends = c.self.inside.ends.items in
    let buffer = string_bytes c.self.inside.buffer in
    let lt : c.args.index < length ends = omega (arith, c.len.ensures, c.self.inside.ends.ok.0, c.if-index-len.false) in
    let end = read ends _ _ c.index-end.ensures lt in
    c.range.ensures.value
    ∙ ap (λ text. take (c.index-end.result.now - c.start_of-start.result) (drop c.start_of-start.result text)) c.as_str.ensures.value
    ∙ ap (λ n. take (n - c.start_of-start.result) (drop c.start_of-start.result buffer)) end
    ∙ ap (λ n. take (get_or ends c.args.index 0 - n) (drop n buffer)) c.start_of-start.ensures
    ∙ sym (part-at ends buffer c.args.index lt)
    ∙ ap (λ texts. get_or texts c.args.index []) c.self.view_is
