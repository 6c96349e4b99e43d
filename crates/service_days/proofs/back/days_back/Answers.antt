-- The loop counts the active days that it has passed.
use Rattle.std.proofs.Common.{◌≡◌, ◌<◌, Some, None, w32, to_z, of_z, sym, ◌∙◌, subst, arith}
use Rattle.std.proofs.lemmas.Int.{ints, to_z-of_z}
use Rattle.flex_model.specs.ServiceDay.{active_days_before}
use Rattle.service_days.proofs.BackDays.{found_back, none_back, step_off, step_on}
use Rattle.service_days.proofs.back.days_back.Goals as goal
use Rattle.service_days.proofs.back.days_back.Goals.{then-runs_on+else-found-n, else-runs_on}

pub returns-then-found-n : goal.returns-then-found-n
returns-then-found-n c =
    let service = c.args.service.now in
    let count : c.loop-between.found ≡ active_days_before service c.args.day c.loop-between.between =
    subst (λ day. c.loop-between.found ≡ active_days_before service day c.loop-between.between) (to_z-of_z w32 c.args.day c.ranges.day) c.loop-between.invariant.0 in
    let low = c.runs_on.ensures.low c.if-runs_on.true in
    found_back service c.args.day c.args.n c.loop-between.between _ _ (omega (arith, ints)) (omega (arith, ints)) (sym c.runs_on.ensures.value ∙ c.if-runs_on.true) (omega (arith, c.if-found-n.true, count)) (omega (arith, c.loop-between-test.true))

pub loop-between-preserved : goal.loop-between-preserved
loop-between-preserved c =
    let service = c.args.service.now in
    let inv = c.loop-between.invariant in
    elim c.if-runs_on.branch [
      | then-runs_on+else-found-n w ↦ (
          let step = step_on service (to_z w32 (of_z w32 c.args.day)) c.loop-between.between _ (omega (arith, ints)) (sym c.runs_on.ensures.value ∙ w.if-runs_on.true) in
          (omega (arith, step, inv.0, w.found-is), omega (arith, inv.1, w.found-is, w.if-found-n.false)))
      | else-runs_on w ↦ (
          let step = step_off service (to_z w32 (of_z w32 c.args.day)) c.loop-between.between _ (omega (arith, ints)) (sym c.runs_on.ensures.value ∙ w.if-runs_on.false) in
          (omega (arith, step, inv.0, w.found-is), omega (arith, inv.1, w.found-is)))
    ]

pub returns : goal.returns
returns c earlier =
    let service = c.args.service.now in
    let few = subst (λ day. active_days_before service day c.loop-between.between < c.args.n) (to_z-of_z w32 c.args.day c.ranges.day)
    (subst (λ found. found < c.args.n) c.loop-between.invariant.0 c.loop-between.invariant.1) in (
      λ p. absurd (none_back service c.args.day c.args.n c.loop-between.between (omega arith) few earlier p),
      λ e. absurd (let f : None ≡ Some earlier = e in cc),
    )
