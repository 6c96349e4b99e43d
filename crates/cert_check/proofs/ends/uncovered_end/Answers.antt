use Rattle.std.proofs.Common.{get_or, length, refl, ap, subst, arith}
use Rattle.cert_check.specs.Numbers.{AllTo}
use Rattle.cert_check.proofs.FoundTests.{HasEnd, ends_none, ends_some}
use Rattle.cert_check.proofs.LabelTables.{label_at, no_label, round_at}
use Rattle.cert_check.proofs.Numbered.{all_to_read}
use Rattle.cert_check.proofs.ends.uncovered_end.Goals as goal

pub is_uncovered-requires-clause-round : goal.is_uncovered-requires-clause-round
is_uncovered-requires-clause-round c = round_at c.args.task.now.part.now c.args.labels.now c.loop-i.i c.requires.labels c.loop-i-test.true

pub returns-then-is_uncovered : goal.returns-then-is_uncovered
returns-then-is_uncovered c =
    let task = c.args.task.now in
    ends_some task c.loop-i.i c.number_at.result (get_or c.args.labels.now c.loop-i.i no_label) c.number_at.ensures
    (label_at task.part.now c.args.labels.now c.loop-i.i c.requires.labels c.loop-i-test.true)
    (c.is_uncovered.ensures.yes c.if-is_uncovered.true)
    (subst (λ labels. AllTo (HasEnd task) labels c.loop-i.i) c.requires.labels c.loop-i.invariant)

pub loop-i-preserved : goal.loop-i-preserved
loop-i-preserved c =
    let labels = c.args.labels.now in
    all_to_read (HasEnd c.args.task.now) labels c.loop-i.i (get_or labels c.loop-i.i no_label) no_label refl
    c.loop-i.invariant (c.is_uncovered.ensures.no c.if-is_uncovered.false)

pub returns : goal.returns
returns c =
    let task = c.args.task.now in
    let size = ap length c.requires.labels in
    ends_none task c.loop-i.i (omega (arith, size)) (subst (λ labels. AllTo (HasEnd task) labels c.loop-i.i) c.requires.labels c.loop-i.invariant)
