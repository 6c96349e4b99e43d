use Rattle.std.proofs.Common.{IsUtf8, subst, sym, ◌∙◌}
use Rattle.field_text.proofs.EscapeLemmas.{differ_from_test, empty-no_escape, empty_from_test, encoded-unescapes, no_text-no_escape, other-no_escape, same_from_test}
use Rattle.field_text.proofs.unescape.unescape_id.Goals as goal

pub returns-then-is_empty-clause-bad : goal.returns-then-is_empty-clause-bad
returns-then-is_empty-clause-bad c = λ _.
    empty-no_escape c.args.text.now (empty_from_test c.args.text.now (sym c.is_empty.ensures ∙ c.if-is_empty.true))

pub returns-in-Err-Utf8-clause-bad : goal.returns-in-Err-Utf8-clause-bad
returns-in-Err-Utf8-clause-bad c = λ _.
    no_text-no_escape c.args.text.now
    (λ utf8. let e = c.in-Err-Utf8.ensures.utf8 (subst IsUtf8 (sym c.percent_decode_str.ensures.bytes) utf8) in cc (e, c.in-Err-Utf8.field-0-is))

pub returns-then-ne-clause-bad : goal.returns-then-ne-clause-bad
returns-then-ne-clause-bad c = λ _.
    other-no_escape c.args.text.now c.as_str-id.result.now c.as_str.result.now
    (c.as_str-id.ensures.value ∙ c.in-Ok.ensures.value ∙ c.percent_decode_str.ensures.bytes)
    (c.as_str.ensures.value ∙ c.in-Ok-into_cow.ensures.value ∙ c.utf8_percent_encode.ensures.text)
    (differ_from_test _ _ _ c.ne.ensures c.if-ne.true)

pub returns-clause-ok : goal.returns-clause-ok
returns-clause-ok c =
    encoded-unescapes c.args.text.now c.as_str-id.result.now c.as_str.result.now c.args.into.now _
    (sym c.is_empty.ensures ∙ c.if-is_empty.false)
    c.as_str-id.utf8
    (c.as_str.ensures.value ∙ c.in-Ok-into_cow.ensures.value ∙ c.utf8_percent_encode.ensures.text)
    (same_from_test _ _ _ c.ne.ensures c.if-ne.false)
    c.in-Ok-append.ensures.ok
