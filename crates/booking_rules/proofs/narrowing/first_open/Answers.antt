-- Departures are open from where they aren't too early and both ends can be booked.
use Rattle.std.proofs.Common.{◌≡◌, ◌↔◌, ◌<◌, ◌≤◌, ◌*◌, ℕ, ◌≤ℤ◌, ◌+ℤ◌, pos, w64, to_z, of_z, subst}
use Rattle.std.proofs.lemmas.Int.{to_z-of_z}
use Rattle.booking_rules.specs.Ends.{CanBookEnd}
use Rattle.booking_rules.specs.Narrowing.{nth_ride}
use Rattle.booking_rules.proofs.OpenDepartures.{open_departures}
use Rattle.booking_rules.proofs.RunDepartures.{first_fits}
use Rattle.booking_rules.proofs.narrowing.first_open.Goals as goal

pub returns : goal.returns
returns c =
    let feed = c.args.feed.now in
    let days = c.args.days.now in
    let ride = c.args.ride.now in
    let run = c.args.run.now in
    let ways = c.ways_of-pickup.result in
    let until = c.minutes_until.result in
    let boarding = c.first_of_end-boarding.result in
    let alighting = c.first_of_end-alighting.result in
    let now : to_z w64 (of_z w64 c.args.now) ≡ c.args.now = to_z-of_z w64 c.args.now c.ranges.now in
    let earliest : to_z w64 (of_z w64 c.args.earliest) ≡ c.args.earliest = to_z-of_z w64 c.args.earliest c.ranges.earliest in
    let in_time = subst (λ e. (k : ℕ) → (until ≤ k) ↔ (e ≤ℤ (run.first +ℤ pos (60 * k)))) earliest
    (subst (λ m. (k : ℕ) → (until ≤ k) ↔ (to_z w64 (of_z w64 c.args.earliest) ≤ℤ (m +ℤ pos (60 * k)))) (first_fits run c.requires.some c.requires.departs) c.minutes_until.ensures) in
    let boards = subst (λ n. (k : ℕ) → k < run.count → (boarding ≤ k) ↔ CanBookEnd feed days (nth_ride ride run k) ways.0 n) now c.first_of_end-boarding.ensures in
    let alights = subst (λ n. (k : ℕ) → k < run.count → (alighting ≤ k) ↔ CanBookEnd feed days (nth_ride ride run k) ways.1 n) now c.first_of_end-alighting.ensures in
    open_departures feed days ride run c.args.now ways.0 ways.1 c.ways_of-pickup.ensures.ways c.args.earliest until boarding alighting c.max-2.result in_time boards alights cc
