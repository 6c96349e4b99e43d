use Rattle.std.proofs.Common.{◌∙◌, ap, cond, length, None, pos, sym}
use Rattle.std.proofs.lemmas.Bool.{le-leb}
use Rattle.field_text.specs.Numerals.{degree_of_numeral}
use Rattle.field_text.proofs.degree.degree_of.Goals as goal

pub returns : goal.returns
returns c =
    let degree = degree_of_numeral (pos c.args.greatest) c.numeral_of.result in
    c.degree_of_numeral.ensures
    ∙ ap (λ b. cond b degree None) (sym (le-leb (length c.args.text.now) 64 c.if-text-gt-MOST_DEGREE_BYTES.false))
    ∙ sym (c.numeral_of.ensures.degree (pos c.args.greatest))
