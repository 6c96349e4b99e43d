use Rattle.std.proofs.Common.{◌≡◌, ◌∙◌, ap, arith, to_z, of_z, w64}
use Rattle.std.proofs.lemmas.Int.{ints}
use Rattle.field_text.specs.Texts.{day_of_month, last_digits, month_of, year_of}
use Rattle.field_text.proofs.TextLemmas.{date_bytes_are}
use Rattle.field_text.proofs.date.date_bytes.Goals as goal

pub returns : goal.returns
returns c =
    let same : to_z w64 (of_z w64 c.from.result) ≡ c.args.day = omega (arith, ints) in
    let parts = c.civil_parts-year.ensures in
    date_bytes_are c.args.day c.four_digits.result c.two_digits.result c.two_digits-2.result
    (c.four_digits.ensures ∙ ap (last_digits 4) (parts.year ∙ ap year_of same))
    (c.two_digits.ensures ∙ ap (last_digits 2) (parts.month ∙ ap month_of same))
    (c.two_digits-2.ensures ∙ ap (last_digits 2) (parts.day ∙ ap day_of_month same))
