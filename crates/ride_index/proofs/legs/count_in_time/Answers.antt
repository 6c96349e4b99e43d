-- Where each ride arrives after the same time, those that leave early enough are in time.
use Rattle.std.proofs.Common.{◌≡◌, ◌↔◌, ℕ, ◌*◌, ◌<◌, pos, ◌+ℤ◌, ◌≤ℤ◌, w64, to_z, of_z, rules, subst, arith}
use Rattle.std.proofs.lemmas.Int.{ints, to_z-of_z}
use Rattle.ride_index.proofs.LegRuns.{count_after}
use Rattle.ride_index.proofs.legs.count_in_time.Goals as goal

pub returns-in-After : goal.returns-in-After
returns-in-After c =
    let run = c.args.run.now in
    let few : run.count < 4294967296 = search rules in
    let limit : to_z w64 (of_z w64 c.args.limit) ≡ c.args.limit = to_z-of_z w64 c.args.limit c.ranges.limit in
    let from = to_z w64 (of_z w64 (to_z w64 (of_z w64 run.first) +ℤ to_z w64 (of_z w64 c.from.result))) in
    let first = c.requires.departs 0 c.requires.some in
    let low = first.low in
    let high = first.high in
    count_after run c.in-After.seconds c.args.limit from c.minutes_to.result c.in-After.is (omega (arith, ints, c.from.ensures, low, high)) few
    (subst (λ l. (k : ℕ) → k < 4294967295 → (k < c.minutes_to.result) ↔ ((from +ℤ pos (60 * k)) ≤ℤ l)) limit c.minutes_to.ensures)
