use Rattle.std.proofs.Common.{◌≡◌, ◌<◌, ◌∙◌, sym, ap, length, get_or, arith, [], ℕ, List, false, position}
use Rattle.std.specs.Str.{bytes_eq}
use Rattle.std.proofs.lemmas.List.{get_or_default}
use Rattle.feed_tables.specs.Parts.{parts}
use Rattle.feed_tables.specs.Records.{header_of}
use Rattle.feed_tables.proofs.TableFacts.{header-field, position-found, position-missing}
use Rattle.feed_tables.proofs.table.Table.column.Goals as goal

-- the value at an index, whatever the default
read : (xs : List ℕ) (i x : ℕ) → x ≡ get_or xs i x → i < length xs → x ≡ get_or xs i 0
read xs i x e lt = e ∙ get_or_default xs i x 0 lt

pub returns-then-eq : goal.returns-then-eq
returns-then-eq c =
    let ends = c.self.inside.ends.items in
    let pool = c.self.inside.pool in
    let header = header-field ends pool c.self.invariant.some c.self.invariant.cut in
    let end = read ends _ _ c.index-column-end.ensures c.self.invariant.some in
    let name = c.args.name.now in
    let lt : c.loop-column.column < length (get_or (parts 0 ends pool) 0 []) = omega (arith, header.0, end, c.loop-column-test.true) in
    let before : (k : ℕ) → k < c.loop-column.column → bytes_eq name (get_or (get_or (parts 0 ends pool) 0 []) k []) ≡ false =
    λ k low. ap (bytes_eq name) (header.1 k (omega (arith, end, low, c.loop-column-test.true))) ∙ c.loop-column.invariant k low in
    let here = ap (bytes_eq name) (header.1 c.loop-column.column (omega (arith, end, c.loop-column-test.true)) ∙ sym c.get.ensures) ∙ sym c.eq.ensures ∙ c.if-eq.true in
    position-found (bytes_eq name) _ _ lt before here ∙ ap (λ records. position (bytes_eq name) (header_of records)) c.self.view_is

pub returns : goal.returns
returns c =
    let ends = c.self.inside.ends.items in
    let pool = c.self.inside.pool in
    let header = header-field ends pool c.self.invariant.some c.self.invariant.cut in
    let end = read ends _ _ c.index-column-end.ensures c.self.invariant.some in
    let name = c.args.name.now in
    let none : (k : ℕ) → k < length (get_or (parts 0 ends pool) 0 []) → bytes_eq name (get_or (get_or (parts 0 ends pool) 0 []) k []) ≡ false =
    λ k lt. ap (bytes_eq name) (header.1 k (omega (arith, header.0, lt))) ∙ c.loop-column.invariant k (omega (arith, header.0, end, lt, c.loop-column-test.false)) in
    position-missing (bytes_eq name) _ none ∙ ap (λ records. position (bytes_eq name) (header_of records)) c.self.view_is
