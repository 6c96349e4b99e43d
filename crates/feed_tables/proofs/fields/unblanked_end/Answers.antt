use Rattle.std.proofs.Common.{◌≡◌, ◌-◌, ◌+◌, ◌∙◌, sym, ap, arith, length, get_or, take}
use Rattle.feed_tables.specs.Fields.{is_blank, without_trailing}
use Rattle.feed_tables.proofs.Trims.{trailing-blank, trailing-end, trailing-other}
use Rattle.feed_tables.proofs.fields.unblanked_end.Goals as goal

pub returns-then-not-is_blank-clause-value : goal.returns-then-not-is_blank-clause-value
returns-then-not-is_blank-clause-value c =
    let field = c.args.field.now in
    let other = sym c.is_blank.ensures ∙ c.if-not-is_blank.true in
    sym (trailing-other field (length field - c.loop-back.back) (omega arith) (omega arith) other) ∙ c.loop-back.invariant.value

pub returns-then-not-is_blank-clause-blank : goal.returns-then-not-is_blank-clause-blank
returns-then-not-is_blank-clause-blank c = λ lt. c.loop-back.invariant.blank (omega (arith, lt))

pub loop-back-preserved : goal.loop-back-preserved
loop-back-preserved c =
    let field = c.args.field.now in
    let blank = sym c.is_blank.ensures ∙ c.if-not-is_blank.false in
    let step : length field - (c.loop-back.back + 1) ≡ length field - c.loop-back.back - 1 = omega arith in
    record {
      value = ap (λ n. without_trailing (take n field)) step
          ∙ sym (trailing-blank field (length field - c.loop-back.back) (omega arith) (omega arith) blank) ∙ c.loop-back.invariant.value;
      blank = λ _. ap (λ k. is_blank (get_or field k 0)) step ∙ blank;
    }

pub returns-clause-value : goal.returns-clause-value
returns-clause-value c =
    let field = c.args.field.now in
    let none : 0 ≡ length field - c.loop-back.back = omega arith in
    sym trailing-end ∙ ap (λ n. without_trailing (take n field)) none ∙ c.loop-back.invariant.value

pub returns-clause-blank : goal.returns-clause-blank
returns-clause-blank c =
    let field = c.args.field.now in
    let none : length field - c.loop-back.back ≡ 0 = omega arith in
    λ lt. ap (λ k. is_blank (get_or field k 0)) (sym none) ∙ c.loop-back.invariant.blank (omega (arith, lt))
