-- The departures that count are those of the run that is given.
use Rattle.std.proofs.Common.{◌≡◌, ◌↔◌, ◌<◌, ◌≤◌, ℤ, IfNone, w64, to_z, of_z, sym, subst, arith}
use Rattle.std.proofs.lemmas.Int.{to_z-of_z}
use Rattle.flex_model.specs.declared.moment.Deadline.{Deadline}
use Rattle.flex_model.specs.Run.{IsInRun}
use Rattle.booking_rules.specs.Departures.{IsCoveredBy, IsKept, IsOpen, IsOpenUntil, LeavesInRange}
use Rattle.booking_rules.specs.Narrowing.{kept_of, last_number}
use Rattle.booking_rules.proofs.KeptDepartures.{kept_are, kept_covers, kept_in_range, none_open, within_run}
use Rattle.booking_rules.proofs.narrowing.narrow.Goals as goal
use Rattle.booking_rules.proofs.narrowing.narrow.Goals.{After-minutes_of_rise-minutes}

pub returns-in_err-latest-clause-none : goal.returns-in_err-latest-clause-none
returns-in_err-latest-clause-none c =
    let feed = c.args.feed.now in
    let days = c.args.days.now in
    let ride = c.args.ride.now in
    let run = c.args.run.now in
    let now : to_z w64 (of_z w64 c.args.now) ≡ c.args.now = to_z-of_z w64 c.args.now c.ranges.now in
    let earliest : to_z w64 (of_z w64 c.args.earliest) ≡ c.args.earliest = to_z-of_z w64 c.args.earliest c.ranges.earliest in
    subst (λ kept. IfNone kept ((departs arrives : ℤ) → IsOpen feed days ride run c.args.now c.args.earliest departs arrives → ⊥)) (sym c.from_residual.ensures)
    (subst (λ n. (departs arrives : ℤ) → IsOpen feed days ride run n c.args.earliest departs arrives → ⊥) now
    (subst (λ e. (departs arrives : ℤ) → IsOpen feed days ride run (to_z w64 (of_z w64 c.args.now)) e departs arrives → ⊥) earliest
    (none_open feed days ride run (to_z w64 (of_z w64 c.args.now)) (to_z w64 (of_z w64 c.args.earliest)) c.in_err-latest.ensures.none)))

-- the last departure is open, so the first open one is one of the run's
first_within : (c : After-minutes_of_rise-minutes) → c.first_open-first.result < c.args.run.now.count
first_within c =
    let some : 0 < c.args.run.now.count = c.requires.some in
    let le : c.first_open-first.result ≤ last_number c.args.run.now = (c.first_open-first.ensures (last_number c.args.run.now) (omega arith)).1 c.in_ok-latest.ensures.last.0 in
    omega arith

pub kept-requires-clause-within : goal.kept-requires-clause-within
kept-requires-clause-within c =
    within_run c.args.feed.now c.args.days.now c.args.ride.now c.args.run.now (to_z w64 (of_z w64 c.args.now)) (to_z w64 (of_z w64 c.args.earliest)) c.in_ok-latest.latest
    c.first_open-first.result c.minutes_of_rise-minutes.result (first_within (goal.at.kept-requires-clause-within c).After-minutes_of_rise-minutes)
    c.first_open-first.ensures c.in_ok-latest.ensures.last.1 c.minutes_of_rise-minutes.ensures

pub returns-clause-kept : goal.returns-clause-kept
returns-clause-kept c =
    let feed = c.args.feed.now in
    let days = c.args.days.now in
    let ride = c.args.ride.now in
    let run = c.args.run.now in
    let now : to_z w64 (of_z w64 c.args.now) ≡ c.args.now = to_z-of_z w64 c.args.now c.ranges.now in
    let earliest : to_z w64 (of_z w64 c.args.earliest) ≡ c.args.earliest = to_z-of_z w64 c.args.earliest c.ranges.earliest in
    let narrowed = kept_of run c.first_open-first.result c.minutes_of_rise-minutes.result run.arrives in
    subst (λ kept. (departs arrives : ℤ) → IsInRun kept departs arrives ↔ IsKept feed days ride run c.args.now c.args.earliest departs arrives) (sym c.kept.ensures)
    (subst (λ n. (departs arrives : ℤ) → IsInRun narrowed departs arrives ↔ IsKept feed days ride run n c.args.earliest departs arrives) now
    (subst (λ e. (departs arrives : ℤ) → IsInRun narrowed departs arrives ↔ IsKept feed days ride run (to_z w64 (of_z w64 c.args.now)) e departs arrives) earliest
    (kept_are feed days ride run (to_z w64 (of_z w64 c.args.now)) (to_z w64 (of_z w64 c.args.earliest)) c.in_ok-latest.latest
    c.first_open-first.result c.minutes_of_rise-minutes.result (first_within (goal.at.returns-clause-kept c).After-minutes_of_rise-minutes)
    c.first_open-first.ensures c.in_ok-latest.ensures.last.1 c.minutes_of_rise-minutes.ensures)))

pub returns-clause-departs : goal.returns-clause-departs
returns-clause-departs c =
    subst LeavesInRange (sym c.kept.ensures)
    (kept_in_range c.args.feed.now c.args.days.now c.args.ride.now c.args.run.now (to_z w64 (of_z w64 c.args.now)) (to_z w64 (of_z w64 c.args.earliest)) c.in_ok-latest.latest
    c.first_open-first.result c.minutes_of_rise-minutes.result (first_within (goal.at.returns-clause-departs c).After-minutes_of_rise-minutes)
    c.first_open-first.ensures c.in_ok-latest.ensures.last.1 c.minutes_of_rise-minutes.ensures c.requires.departs)

pub returns-clause-covered : goal.returns-clause-covered
returns-clause-covered c =
    let feed = c.args.feed.now in
    let days = c.args.days.now in
    let ride = c.args.ride.now in
    let run = c.args.run.now in
    let now : to_z w64 (of_z w64 c.args.now) ≡ c.args.now = to_z-of_z w64 c.args.now c.ranges.now in
    let earliest : to_z w64 (of_z w64 c.args.earliest) ≡ c.args.earliest = to_z-of_z w64 c.args.earliest c.ranges.earliest in
    let narrowed = kept_of run c.first_open-first.result c.minutes_of_rise-minutes.result run.arrives in
    subst (λ kept. (departs arrives : ℤ) (deadline : Deadline) → IsOpenUntil feed days ride run c.args.now c.args.earliest departs arrives deadline → IsCoveredBy feed days ride kept arrives deadline) (sym c.kept.ensures)
    (subst (λ n. (departs arrives : ℤ) (deadline : Deadline) → IsOpenUntil feed days ride run n c.args.earliest departs arrives deadline → IsCoveredBy feed days ride narrowed arrives deadline) now
    (subst (λ e. (departs arrives : ℤ) (deadline : Deadline) → IsOpenUntil feed days ride run (to_z w64 (of_z w64 c.args.now)) e departs arrives deadline → IsCoveredBy feed days ride narrowed arrives deadline) earliest
    (kept_covers feed days ride run (to_z w64 (of_z w64 c.args.now)) (to_z w64 (of_z w64 c.args.earliest)) c.in_ok-latest.latest
    c.first_open-first.result c.minutes_of_rise-minutes.result (first_within (goal.at.returns-clause-covered c).After-minutes_of_rise-minutes)
    c.first_open-first.ensures c.in_ok-latest.ensures.last.1 c.minutes_of_rise-minutes.ensures)))
