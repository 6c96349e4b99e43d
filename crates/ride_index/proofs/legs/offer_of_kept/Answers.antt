-- The first and the last ride of the run can be booked, and so can those between.
use Rattle.std.proofs.Common.{◌-◌, [], ◌∷◌, sym, subst, arith}
use Rattle.flex_model.specs.Booking.{IsDeadline}
use Rattle.ride_index.specs.Legs.{IsLegRide}
use Rattle.ride_index.specs.OfferedRuns.{AreOffersOf}
use Rattle.ride_index.proofs.LegRuns.{kept_offer, ride_of_kept}
use Rattle.ride_index.proofs.legs.offer_of_kept.Goals as goal

pub deadline_of-requires-clause-reachable : goal.deadline_of-requires-clause-reachable
deadline_of-requires-clause-reachable c =
    let some = c.requires.kept.some in
    let ride = ride_of_kept c.args.wanted.now c.args.leg.now c.args.kept.now c.requires.kept 0 (omega arith) c.ride_then-first.result c.ride_then-first.ensures in
    ride.0

pub returns-in_default : goal.returns-in_default
returns-in_default c =
    let some = c.requires.kept.some in
    let ride = ride_of_kept c.args.wanted.now c.args.leg.now c.args.kept.now c.requires.kept 0 (omega arith) c.ride_then-first.result c.ride_then-first.ensures in
    absurd (c.in_default.ensures.refused ride.1)

pub deadline_of-requires-2-clause-reachable : goal.deadline_of-requires-2-clause-reachable
deadline_of-requires-2-clause-reachable c =
    let some = c.requires.kept.some in
    let ride = ride_of_kept c.args.wanted.now c.args.leg.now c.args.kept.now c.requires.kept (c.args.kept.now.count - 1) (omega arith) c.ride_then-last.result c.ride_then-last.ensures in
    ride.0

pub returns-in_default-deadline_of : goal.returns-in_default-deadline_of
returns-in_default-deadline_of c =
    let some = c.requires.kept.some in
    let ride = ride_of_kept c.args.wanted.now c.args.leg.now c.args.kept.now c.requires.kept (c.args.kept.now.count - 1) (omega arith) c.ride_then-last.result c.ride_then-last.ensures in
    absurd (c.in_default-deadline_of.ensures.refused ride.1)

pub returns : goal.returns
returns c =
    let w = c.args.wanted.now in
    let kept = c.args.kept.now in
    let closes = c.in-Some.closes in
    let latest = c.in-Some-deadline_of.latest in
    let opens = subst (λ x. IsDeadline w.feed.now w.days.now x closes) c.ride_then-first.ensures c.in-Some.ensures.booked.1 in
    let ends = subst (λ x. IsDeadline w.feed.now w.days.now x latest) c.ride_then-last.ensures c.in-Some-deadline_of.ensures.booked.1 in
    subst (λ x. AreOffersOf (IsLegRide w c.args.leg.now) (record { ride = x; count = kept.count; closes = closes; latest = latest } ∷ [])) (sym c.ride_then-first.ensures)
    (kept_offer w c.args.leg.now kept c.requires.leg c.requires.kept closes latest opens ends)
