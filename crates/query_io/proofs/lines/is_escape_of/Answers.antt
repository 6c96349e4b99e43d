use Rattle.std.proofs.Common.{◌≢◌, ◌<◌, ℕ, List, ◌++◌, length, get_or, ap, subst, ◌∙◌, arith}
use Rattle.std.proofs.lemmas.List.{take_all}
use Rattle.field_text.specs.Grammars.{escape, escaped_byte}
use Rattle.query_io.proofs.EscapedFronts.{other_text, whole_text}
use Rattle.query_io.proofs.lines.is_escape_of.Goals as goal

pub returns-in-None : goal.returns-in-None
returns-in-None c =
    let text = c.args.text.now in
    let rest = c.loop-byte.rest.now in
    let i = c.loop-byte.byte-index in
    let same = c.as_bytes-byte-items.ensures.value in
    let low : i < length c.args.id.now = omega (arith, ap length same, c.loop-byte-test.true) in
    other_text text rest c.args.id.now i low c.loop-byte.invariant
    (subst (λ (z : List ℕ). (after : List ℕ) → rest ≢ escaped_byte (get_or z i 0) ++ after) same c.in-None.ensures.none)

pub returns : goal.returns
returns c =
    let text = c.args.text.now in
    let rest = c.loop-byte.rest.now in
    let id = c.args.id.now in
    let i = c.loop-byte.byte-index in
    let same = c.as_bytes-byte-items.ensures.value in
    c.is_empty.ensures ∙ whole_text text rest id
    (c.loop-byte.invariant ∙ ap (λ (z : List ℕ). escape z ++ rest) (take_all i id (omega (arith, ap length same, c.loop-byte-test.false))))
