use Rattle.std.proofs.Common.{◌+◌, get_or, length, refl, ◌∙◌, ap, arith}
use Rattle.cert_check.specs.declared.reason.Reason.TheVariants.{Journey}
use Rattle.flex_model.specs.declared.flaw.JourneyFlaw.TheVariants.{NoRide}
use Rattle.cert_check.proofs.FoundTests.{HasTriple, triples_none, triples_some}
use Rattle.cert_check.proofs.Numbered.{all_to_read, item_read, number_of_index}
use Rattle.cert_check.proofs.answers.differing_triple.Goals as goal

pub real_triple-requires-clause-permitted : goal.real_triple-requires-clause-permitted
real_triple-requires-clause-permitted c =
    let answers = c.args.task.now.part.now.answers in
    let size = ap length c.as_slice-answers.ensures in
    let answer = c.index-answers-i.result in
    let at = item_read answers c.loop-i.i answer answer (omega (arith, size))
    (c.index-answers-i.is ∙ ap (λ xs. get_or xs c.loop-i.i answer) c.as_slice-answers.ensures) in
    c.requires.permitted (Journey (c.loop-i.i + 1) NoRide) refl answer (number_of_index answers c.loop-i.i answer at)

pub returns-in-Some : goal.returns-in-Some
returns-in-Some c =
    let answers = c.args.task.now.part.now.answers in
    let size = ap length c.as_slice-answers.ensures in
    let answer = c.index-answers-i.result in
    let at = item_read answers c.loop-i.i answer answer (omega (arith, size))
    (c.index-answers-i.is ∙ ap (λ xs. get_or xs c.loop-i.i answer) c.as_slice-answers.ensures) in
    triples_some c.args.task.now c.loop-i.i c.number_at.result answer c.in-Some.real c.number_at.ensures at c.in-Some.ensures c.loop-i.invariant

pub loop-i-preserved : goal.loop-i-preserved
loop-i-preserved c =
    let task = c.args.task.now in
    let answer = c.index-answers-i.result in
    all_to_read (HasTriple task) task.part.now.answers c.loop-i.i answer answer
    (c.index-answers-i.is ∙ ap (λ xs. get_or xs c.loop-i.i answer) c.as_slice-answers.ensures)
    c.loop-i.invariant c.in_default.ensures

pub returns : goal.returns
returns c =
    let size = ap length c.as_slice-answers.ensures in
    triples_none c.args.task.now c.loop-i.i (omega (arith, size)) c.loop-i.invariant
