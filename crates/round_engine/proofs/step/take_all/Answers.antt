use Rattle.std.proofs.Common.{rules, ◌≡◌, length, subst, arith}
use Rattle.round_engine.proofs.Steps.{AreTaken, no_step, taken_more}
use Rattle.round_engine.proofs.step.take_all.Goals as goal

pub loop-run-init : goal.loop-run-init
loop-run-init c = record {
  step = no_step c.args.task.now c.args.earlier.now c.args.round.now c.args.ends.now c.requires.state;
  held = λ j d lt. absurd (omega arith);
}

pub take_run-requires-clause-state : goal.take_run-requires-clause-state
take_run-requires-clause-state c = c.loop-run.invariant.step.state

pub take_run-requires-clause-offers : goal.take_run-requires-clause-offers
take_run-requires-clause-offers c = c.requires.offers c.loop-run.run-index _ (search rules)

pub loop-run-preserved : goal.loop-run-preserved
loop-run-preserved c =
    taken_more c.args.task.now c.args.earlier.now c.args.round.now c.args.ends.now c.loop-run.round c.loop-run.ends c.take_run.new.round c.take_run.new.ends
    c.loop-run.run-index c.args.boarding.now c.args.runs.now _ (search rules) c.loop-run.invariant c.in_ok-take_run.ensures.step c.in_ok-take_run.ensures.held

pub returns-clause-step : goal.returns-clause-step
returns-clause-step c = c.loop-run.invariant.step

pub returns-clause-held : goal.returns-clause-held
returns-clause-held c =
    let e : c.loop-run.run-index ≡ length c.args.runs.now = search rules in
    let all = subst (AreTaken c.args.task.now c.args.earlier.now c.args.boarding.now c.args.runs.now c.args.round.now c.args.ends.now c.loop-run.round c.loop-run.ends) e c.loop-run.invariant in
    all.held
