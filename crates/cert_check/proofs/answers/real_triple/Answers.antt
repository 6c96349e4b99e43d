use Rattle.std.proofs.Common.{◌≡◌, refl, sym, subst}
use Rattle.flex_model.specs.Flaw.{IsFirstJourneyFlaw}
use Rattle.flex_model.specs.Journey.{Attains}
use Rattle.flex_model.proofs.Flaws.{journeys_flawed}
use Rattle.cert_check.proofs.answers.real_triple.Goals as goal

pub returns-else-is_same : goal.returns-else-is_same
returns-else-is_same c =
    let task = c.args.task.now in
    let told = c.args.answer.now.triple in (
      subst (λ rides. Attains task.feed.now task.times.now task.days.now task.query.now rides c.in-Ok.real) c.as_slice-rides.ensures
          ((c.in-Ok.ensures.ok c.in-Ok.real).0 refl),
      λ attains.
          let both = (c.in-Ok.ensures.ok told).1
          (subst (λ rides. Attains task.feed.now task.times.now task.days.now task.query.now rides told) (sym c.as_slice-rides.ensures) attains) in
          let same : c.in-Ok.real ≡ told = cc in
          let is = c.is_same.ensures.1 same in
          let not = c.if-is_same.false in
          cc,
    )

pub returns-in-Err : goal.returns-in-Err
returns-in-Err c =
    let task = c.args.task.now in
    absurd (journeys_flawed task.feed.now task.times.now task.days.now task.query.now c.args.answer.now.rides c.in-Err._flaw
    (subst (λ rides. IsFirstJourneyFlaw task.feed.now task.times.now task.days.now task.query.now rides c.in-Err._flaw) c.as_slice-rides.ensures
    ((c.in-Err.ensures.flaw c.in-Err._flaw).0 refl)) c.requires.permitted)
