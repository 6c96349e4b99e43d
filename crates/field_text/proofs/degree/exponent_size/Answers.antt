use Rattle.std.proofs.Common.{◌||◌, ◌∙◌, not, ap, refl, sym}
use Rattle.field_text.specs.Grammars.{has_digits, number, some_if}
use Rattle.field_text.proofs.DegreeLemmas.{digits_within-width}
use Rattle.field_text.proofs.degree.exponent_size.Goals as goal

pub returns-then-is_given-clause-value : goal.returns-then-is_given-clause-value
returns-then-is_given-clause-value c =
    let digits = c.args.digits.now in
    c.digits_within.ensures ∙ digits_within-width 1 4 9999 digits refl
    ∙ ap (λ given. some_if (not given || has_digits 1 4 digits) (number digits)) (sym c.if-is_given.true)
