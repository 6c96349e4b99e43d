use Rattle.std.proofs.Common.{◌∙◌, ◌+◌, ap, length, take, drop}
use Rattle.std.specs.Prelude.{is_some, unwrap_or}
use Rattle.field_text.specs.Grammars.{is_exponent_mark}
use Rattle.field_text.proofs.NumeralLemmas.{degree-in_parts, is_some-position, unwrap_or-position}
use Rattle.field_text.proofs.numeral.numeral_of.Goals as goal

pub returns-clause-degree : goal.returns-clause-degree
returns-clause-degree c = λ greatest.
    let text = c.args.text.now in
    let mark = c.index_of_mark-mark.ensures in
    let index = ap (λ o. unwrap_or o (length text)) mark ∙ unwrap_or-position is_exponent_mark text in
    degree-in_parts greatest text c.split_at.result.0.now c.split_at.result.1.now c.split_sign-is_negative.result.1.now
    c.split_at_byte.result.0.now c.split_at_byte.result.1.now c.split_sign-is_small.result.1.now
    c.split_sign-is_negative.result.0 c.is_some.result c.split_sign-is_small.result.0
    (c.split_at.ensures.before ∙ ap (λ n. take n text) index)
    (c.split_at.ensures.after ∙ ap (λ n. drop (n + 1) text) index)
    c.split_sign-is_negative.ensures.minus c.split_sign-is_negative.ensures.rest
    c.split_at_byte.ensures.before c.split_at_byte.ensures.after
    (c.is_some.ensures ∙ ap is_some mark ∙ is_some-position is_exponent_mark text)
    c.split_sign-is_small.ensures.minus c.split_sign-is_small.ensures.rest
