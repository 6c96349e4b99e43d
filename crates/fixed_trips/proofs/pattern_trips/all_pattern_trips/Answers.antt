-- Trip by trip.
use Rattle.std.proofs.Common.{◌+◌, Some, sym, ◌∙◌, ap, subst, arith}
use Rattle.std.proofs.lemmas.Option.{slice_get-get_or}
use Rattle.fixed_trips.proofs.PatternTrips.{HasEarly, all_early, next_with, next_without}
use Rattle.fixed_trips.proofs.pattern_trips.all_pattern_trips.Goals as goal
use Rattle.fixed_trips.proofs.pattern_trips.all_pattern_trips.Goals.{in-Some+in_ok-push, in_default}

pub loop-trip-preserved : goal.loop-trip-preserved
loop-trip-preserved c =
    let patterns = c.args.patterns.now in
    let n = c.loop-trip.trip in
    let trips = c.loop-trip.trips.items in
    elim c.match-patterns-trip.branch [
      | in-Some+in_ok-push w ↦
          subst (HasEarly patterns (n + 1)) (sym (ap (λ v. v.items) w.trips-is ∙ w.in_ok-push.ensures.items))
          (next_with patterns n w.in-Some.pattern trips (slice_get-get_or patterns n _ (omega (arith, c.loop-trip-test.true)) ∙ ap Some w.in-Some.is) c.loop-trip.invariant)
      | in_default w ↦
          subst (HasEarly patterns (n + 1)) (sym (ap (λ v. v.items) w.trips-is))
          (next_without patterns n trips (slice_get-get_or patterns n _ (omega (arith, c.loop-trip-test.true)) ∙ ap Some w.in_default.is) c.loop-trip.invariant)
    ]

pub returns : goal.returns
returns c = all_early c.args.patterns.now c.loop-trip.trip c.loop-trip.trips.items (omega (arith, c.loop-trip-test.false)) c.loop-trip.invariant
