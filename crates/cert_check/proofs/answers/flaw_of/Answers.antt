use Rattle.std.proofs.Common.{refl, subst}
use Rattle.flex_model.specs.Journey.{IsPermittedJourney}
use Rattle.cert_check.proofs.answers.flaw_of.Goals as goal

pub returns-in-Ok : goal.returns-in-Ok
returns-in-Ok c =
    let task = c.args.task.now in
    subst (IsPermittedJourney task.feed.now task.times.now task.days.now task.query.now) c.as_slice-rides.ensures
    ((c.in-Ok.ensures.ok c.in-Ok._triple).0 refl).journey
