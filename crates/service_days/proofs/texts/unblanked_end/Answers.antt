use Rattle.std.proofs.Common.{◌≡◌, ◌-◌, ◌+◌, ◌∙◌, sym, ap, arith, length, get_or, take}
use Rattle.service_days.specs.ZoneTexts.{is_blank, without_trailing}
use Rattle.service_days.proofs.TextTrims.{trailing-blank, trailing-end, trailing-other}
use Rattle.service_days.proofs.texts.unblanked_end.Goals as goal

pub returns-then-not-is_blank-clause-value : goal.returns-then-not-is_blank-clause-value
returns-then-not-is_blank-clause-value c =
    let text = c.args.text.now in
    let other = sym c.is_blank.ensures ∙ c.if-not-is_blank.true in
    sym (trailing-other text (length text - c.loop-back.back) (omega arith) (omega arith) other) ∙ c.loop-back.invariant.value

pub returns-then-not-is_blank-clause-blank : goal.returns-then-not-is_blank-clause-blank
returns-then-not-is_blank-clause-blank c = λ lt. c.loop-back.invariant.blank (omega (arith, lt))

pub loop-back-preserved : goal.loop-back-preserved
loop-back-preserved c =
    let text = c.args.text.now in
    let blank = sym c.is_blank.ensures ∙ c.if-not-is_blank.false in
    let step : length text - (c.loop-back.back + 1) ≡ length text - c.loop-back.back - 1 = omega arith in
    record {
      value = ap (λ n. without_trailing (take n text)) step
          ∙ sym (trailing-blank text (length text - c.loop-back.back) (omega arith) (omega arith) blank) ∙ c.loop-back.invariant.value;
      blank = λ _. ap (λ k. is_blank (get_or text k 0)) step ∙ blank;
    }

pub returns-clause-value : goal.returns-clause-value
returns-clause-value c =
    let text = c.args.text.now in
    let none : 0 ≡ length text - c.loop-back.back = omega arith in
    sym trailing-end ∙ ap (λ n. without_trailing (take n text)) none ∙ c.loop-back.invariant.value

pub returns-clause-blank : goal.returns-clause-blank
returns-clause-blank c =
    let text = c.args.text.now in
    let none : length text - c.loop-back.back ≡ 0 = omega arith in
    λ lt. ap (λ k. is_blank (get_or text k 0)) (sym none) ∙ c.loop-back.invariant.blank (omega (arith, lt))
