use Rattle.std.proofs.Common.{sym, ◌∙◌, arith}
use Rattle.field_text.proofs.ShapeLemmas.{is_shaped-end, is_shaped-step, not_shaped}
use Rattle.field_text.proofs.moment.is_shaped.Goals as goal

pub returns-then-pattern-text-clause-value : goal.returns-then-pattern-text-clause-value
returns-then-pattern-text-clause-value c = not_shaped _ _ c.if-pattern-text.true

pub returns-then-not-is_as_expected : goal.returns-then-not-is_as_expected
returns-then-not-is_as_expected c =
    let step = is_shaped-step c.args.pattern.now c.args.text.now c.loop-i.i (omega arith) (omega arith) in
    let same = c.loop-i.invariant in
    grind (arith, step, same)

pub loop-i-preserved : goal.loop-i-preserved
loop-i-preserved c =
    let step = is_shaped-step c.args.pattern.now c.args.text.now c.loop-i.i (omega arith) (omega arith) in
    let same = c.loop-i.invariant in
    grind (arith, step, same)

pub returns-clause-value : goal.returns-clause-value
returns-clause-value c =
    sym (is_shaped-end c.args.pattern.now c.args.text.now c.loop-i.i (omega arith) (omega arith)) ∙ c.loop-i.invariant
