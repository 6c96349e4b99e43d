use Rattle.std.proofs.Common.{get_or, length, ◌∙◌, ap, arith}
use Rattle.cert_check.proofs.FoundTests.{HasJourney, journeys_none}
use Rattle.cert_check.proofs.Numbered.{all_to_read}
use Rattle.cert_check.proofs.answers.flawed_journey.Goals as goal

pub loop-i-preserved : goal.loop-i-preserved
loop-i-preserved c =
    let task = c.args.task.now in
    let answer = c.index-answers-i.result in
    all_to_read (HasJourney task) task.part.now.answers c.loop-i.i answer answer
    (c.index-answers-i.is ∙ ap (λ xs. get_or xs c.loop-i.i answer) c.as_slice-answers.ensures)
    c.loop-i.invariant c.in_default.ensures

pub returns : goal.returns
returns c =
    let size = ap length c.as_slice-answers.ensures in
    journeys_none c.args.task.now c.loop-i.i (omega (arith, size)) c.loop-i.invariant
