use Rattle.std.proofs.Common.{◌∙◌, arith}
use Rattle.field_text.proofs.NumberLemmas.{none_past_front}
use Rattle.field_text.proofs.digits.number_after.Goals as goal

pub returns-in_err-checked_mul : goal.returns-in_err-checked_mul
returns-in_err-checked_mul c =
    c.from_residual.ensures
    ∙ none_past_front c.args.before c.args.digits.now c.loop-digit.digit-index c.args.greatest c.loop-digit-test.true (omega arith)

pub returns-in_err-number : goal.returns-in_err-number
returns-in_err-number c =
    c.from_residual-in_err-number.ensures
    ∙ none_past_front c.args.before c.args.digits.now c.loop-digit.digit-index c.args.greatest c.loop-digit-test.true (omega arith)
