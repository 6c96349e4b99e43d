use Rattle.std.proofs.Common.{◌+ℤ◌, pos, to_z, of_z, w32, arith}
use Rattle.std.proofs.lemmas.Int.{ints}
use Rattle.service_days.proofs.TableDays.{travel_days}
use Rattle.service_days.proofs.days.first_travel_day.Goals as goal

pub returns : goal.returns
returns c day =
    let days = c.args.days.now in
    let low = c.requires.low in
    let high = c.requires.high in
    travel_days days day (to_z w32 (of_z w32 (to_z w32 (of_z w32 days.first) +ℤ pos 1504))) c.requires (omega (arith, ints))
