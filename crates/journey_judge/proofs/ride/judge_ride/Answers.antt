-- The tests are tried in order, so the first that fails is the first flaw.
use Rattle.std.proofs.Common.{◌≡◌, Err, get_or, refl, sym, ◌∙◌, ap, subst}
use Rattle.std.proofs.lemmas.Bool.{false≢true}
use Rattle.flex_model.specs.declared.flaw.RideFlaw.TheVariants.{NoTrip}
use Rattle.flex_model.specs.Ride.{IsPermittedRide}
use Rattle.flex_model.specs.Flaw.{IsFirstFlaw}
use Rattle.journey_judge.proofs.FlawOrder.{first_at, none_first, none_yet, one_first, one_more, passes_all, tests}
use Rattle.journey_judge.proofs.ride.judge_ride.Goals as goal

pub loop-flaw-init : goal.loop-flaw-init
loop-flaw-init c = none_yet c.args.feed.now c.args.times.now c.args.days.now c.args.ride.now

pub loop-flaw-preserved : goal.loop-flaw-preserved
loop-flaw-preserved c = one_more c.args.feed.now c.args.times.now c.args.days.now c.args.ride.now c.loop-flaw.flaw-index c.loop-flaw-test.true c.loop-flaw.invariant (c.passes.ensures.0 c.if-not-passes.false)

first : (c : goal.Then-not-passes) → IsFirstFlaw c.args.feed.now c.args.times.now c.args.days.now c.args.ride.now (get_or tests c.loop-flaw.flaw-index NoTrip)
first c = first_at c.args.feed.now c.args.times.now c.args.days.now c.args.ride.now c.loop-flaw.flaw-index c.loop-flaw-test.true c.loop-flaw.invariant (λ p. false≢true (sym c.if-not-passes.true ∙ c.passes.ensures.1 p))

pub returns-then-not-passes-clause-ok : goal.returns-then-not-passes-clause-ok
returns-then-not-passes-clause-ok c = (λ e. absurd (false≢true e), λ p. absurd (none_first c.args.feed.now c.args.times.now c.args.days.now c.args.ride.now (get_or tests c.loop-flaw.flaw-index NoTrip) p (first c)))

pub returns-then-not-passes-clause-flaw : goal.returns-then-not-passes-clause-flaw
returns-then-not-passes-clause-flaw c flaw = (
  λ e. let same : get_or tests c.loop-flaw.flaw-index NoTrip ≡ flaw = cc in subst (IsFirstFlaw c.args.feed.now c.args.times.now c.args.days.now c.args.ride.now) same (first c),
  λ f. ap Err (one_first c.args.feed.now c.args.times.now c.args.days.now c.args.ride.now (get_or tests c.loop-flaw.flaw-index NoTrip) flaw (first c) f),
)

permitted : (c : goal.After-loop-flaw) → IsPermittedRide c.args.feed.now c.args.times.now c.args.days.now c.args.ride.now
permitted c = passes_all c.args.feed.now c.args.times.now c.args.days.now c.args.ride.now c.loop-flaw.flaw-index c.loop-flaw-test.false c.loop-flaw.invariant

pub returns-clause-ok : goal.returns-clause-ok
returns-clause-ok c = (λ e. permitted c, λ p. refl)

pub returns-clause-flaw : goal.returns-clause-flaw
returns-clause-flaw c flaw = (λ e. cc, λ f. absurd (none_first c.args.feed.now c.args.times.now c.args.days.now c.args.ride.now flaw (permitted c) f))
