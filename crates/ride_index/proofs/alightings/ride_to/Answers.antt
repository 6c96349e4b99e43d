-- There is one ride to a record, or none.
use Rattle.std.proofs.Common.{w32, w64, rules, SFits, arith}
use Rattle.std.proofs.lemmas.Int.{ints, to_z-of_z}
use Rattle.std.proofs.lemmas.Option.{none-some}
use Rattle.ride_index.proofs.RowRides.{made_is, one_ride}
use Rattle.ride_index.proofs.alightings.ride_to.Goals as goal

pub returns-in_default : goal.returns-in_default
returns-in_default c = λ ride. (
  λ e. absurd (none-some ride e),
  λ h. absurd (c.in_default.not-Some (record { stop = h.stop; arrives = h.arrives }) ((c.stop_time.ensures h.stop h.arrives).1 h.reached)),
)

pub returns : goal.returns
returns c = λ ride.
    let boarded = c.args.boarded.now in
    let at = (c.stop_time.ensures c.in-Some.at.stop c.in-Some.at.arrives).0 c.in-Some.is in
    let day : SFits w32 boarded.day = search rules in
    let departs : SFits w64 boarded.departs = search rules in
    one_ride c.args.row.now boarded _ c.args.zero c.args.to_row c.in-Some.at.stop c.in-Some.at.arrives at (search rules)
    (made_is boarded _ _ _ _ c.args.to_row c.in-Some.at.stop (to_z-of_z w32 boarded.day day) (to_z-of_z w64 boarded.departs departs) (omega (arith, ints, c.moment_after.ensures))) ride
