-- The first rides of the run are in time.
use Rattle.std.proofs.Common.{◌≡◌, ◌↔◌, ℕ, ◌<◌, ◌≤ℤ◌, w64, to_z, of_z, rules, SFits, sym, subst}
use Rattle.std.proofs.lemmas.Int.{to_z-of_z}
use Rattle.flex_model.specs.Run.{IsInRun}
use Rattle.booking_rules.specs.Departures.{nth_departure}
use Rattle.ride_index.specs.Legs.{IsInTime, arrival_then}
use Rattle.ride_index.proofs.LegRuns.{cut_is, none_in_time}
use Rattle.ride_index.proofs.legs.in_time.Goals as goal

pub returns-then-count-eq0-clause-rides : goal.returns-then-count-eq0-clause-rides
returns-then-count-eq0-clause-rides c = λ departs arrives.
    let run = c.args.run.now in
    let limit : to_z w64 (of_z w64 c.args.limit) ≡ c.args.limit = to_z-of_z w64 c.args.limit c.ranges.limit in
    let by = subst (λ l. (k : ℕ) → k < run.count → (k < c.count_in_time.result) ↔ (arrival_then run.arrives (nth_departure run k) ≤ℤ l)) limit c.count_in_time.ensures in
    (λ h. absurd h, λ h. none_in_time run c.args.limit c.count_in_time.result c.min-count.result c.min-count.ensures c.if-count-eq0.true by departs arrives h)

pub returns-clause-rides : goal.returns-clause-rides
returns-clause-rides c = λ departs arrives.
    let run = c.args.run.now in
    let limit : to_z w64 (of_z w64 c.args.limit) ≡ c.args.limit = to_z-of_z w64 c.args.limit c.ranges.limit in
    let by = subst (λ l. (k : ℕ) → k < run.count → (k < c.count_in_time.result) ↔ (arrival_then run.arrives (nth_departure run k) ≤ℤ l)) limit c.count_in_time.ensures in
    let fits : SFits w64 run.first = search rules in
    subst (λ f. IsInRun (record { first = f; count = c.min-count.result; arrives = run.arrives }) departs arrives ↔ IsInTime run c.args.limit departs arrives) (sym (to_z-of_z w64 run.first fits))
    (cut_is run c.args.limit c.count_in_time.result c.min-count.result c.min-count.ensures by departs arrives)
