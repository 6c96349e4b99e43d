use Rattle.std.proofs.Common.{◌&&◌, ◌++◌, ◌-ℤ◌, ◌+ℤ◌, ◌∙◌, ap, length, nat_le, pos, sym}
use Rattle.field_text.specs.Grammars.{number, scaled, signed, some_if}
use Rattle.field_text.proofs.DegreeLemmas.{digits_of_parts, has_digits_of_parts, size_is}
use Rattle.field_text.proofs.degree.size_of.Goals as goal

pub returns : goal.returns
returns c =
    let whole = c.args.whole.now in
    let fraction = c.args.fraction.now in
    let first = sym c.is_digits.ensures ∙ c.if-not-is_digits.false in
    let then = sym c.is_digits-else-not-is_digits.ensures ∙ c.if-not-is_digits-2.false in
    let size = scaled (number (whole ++ fraction)) ((signed c.args.is_small c.args.exponent -ℤ pos (length fraction)) +ℤ pos 15) in
    c.number_of_kept.ensures
    ∙ ap (λ n. some_if (nat_le n c.args.greatest) n) (size_is whole fraction c.args.is_small c.args.exponent c.kept_digits-kept.result (digits_of_parts whole fraction first then) c.kept_digits-kept.ensures)
    ∙ ap (λ b. some_if (b && nat_le size c.args.greatest) size) (sym (has_digits_of_parts whole fraction first then c.if-whole-fraction-eq0.false c.requires.short))
