use Rattle.std.proofs.Common.{◌-ℤ◌, pos, to_z, of_z, w64, arith}
use Rattle.std.proofs.lemmas.Int.{ints}
use Rattle.ride_index.proofs.ActiveDayLists.{number_is}
use Rattle.ride_index.proofs.active_days.travel_number.Goals as goal

pub returns : goal.returns
returns c =
    let z = to_z w64 (of_z w64 (to_z w64 (of_z w64 (to_z w64 (of_z w64 c.from.result) -ℤ to_z w64 (of_z w64 c.from-2.result))) -ℤ pos 1504)) in
    number_is z c.args.day c.args.days.now.first (omega (arith, ints, c.from.ensures, c.from-2.ensures)) (omega (arith, ints, c.if-ahead-lt0.false)) (omega (arith, ints, c.if-ahead-ge22.false))
