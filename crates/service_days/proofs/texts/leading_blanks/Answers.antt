use Rattle.std.proofs.Common.{◌≡◌, ◌+◌, ◌-◌, ◌∙◌, sym, ap, get_or, arith}
use Rattle.service_days.specs.ZoneTexts.{is_blank}
use Rattle.service_days.proofs.TextTrims.{leading-blank, leading-other, leading-end}
use Rattle.service_days.proofs.texts.leading_blanks.Goals as goal

pub returns-then-not-is_blank-clause-value : goal.returns-then-not-is_blank-clause-value
returns-then-not-is_blank-clause-value c = grind (arith, leading-other)

pub loop-byte-preserved : goal.loop-byte-preserved
loop-byte-preserved c =
    let here : c.loop-byte.count + 1 - 1 ≡ c.loop-byte.byte-index = omega (arith, c.loop-byte.invariant.count) in
    record {
      count = omega (arith, c.loop-byte.invariant.count);
      value = grind (arith, leading-blank);
      blank = λ _. ap (λ k. is_blank (get_or c.args.text.now k 0)) here ∙ sym c.is_blank.ensures ∙ c.if-not-is_blank.false;
    }

pub returns-clause-value : goal.returns-clause-value
returns-clause-value c = grind (arith, leading-end)
