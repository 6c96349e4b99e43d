use Rattle.std.proofs.Common.{◌≡◌, pos, ◌+ℤ◌, ◌*ℤ◌, w32, w64, to_z, of_z, rules, SFits, ◌∙◌, ap, arith}
use Rattle.std.proofs.lemmas.Int.{ints, to_z-of_z}
use Rattle.booking_rules.specs.Departures.{nth_departure}
use Rattle.ride_index.specs.Legs.{arrival_then}
use Rattle.ride_index.proofs.LegRuns.{leg_ride_is}
use Rattle.ride_index.proofs.legs.ride_then.Goals as goal

pub returns : goal.returns
returns c =
    let leg = c.args.leg.now in
    let run = c.args.run.now in
    let day : SFits w32 leg.day = search rules in
    let departs : to_z w64 (of_z w64 (to_z w64 (of_z w64 run.first) +ℤ to_z w64 (of_z w64 (pos 60 *ℤ to_z w64 (of_z w64 c.from.result))))) ≡ nth_departure run c.args.number = omega (arith, ints, c.from.ensures) in
    leg_ride_is leg _ _ _ _ _ (to_z-of_z w32 leg.day day) departs
    (to_z-of_z w64 c.arrival.result (record { sfits = c.arrival.type_inv }) ∙ c.arrival.ensures ∙ ap (arrival_then run.arrives) departs)
