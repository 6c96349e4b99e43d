use Rattle.bound_cert.proofs.WordsTold.{trip_found}
use Rattle.bound_cert.proofs.ride_values.trip_at.Goals as goal

pub returns : goal.returns
returns c =
    let trip = trip_found c.args.known.now.feed.now c.args.known.now.times.now c.requires.known.sound c.args.number c.deref.result.now c.index-deref-number.result c.requires.within c.deref.ensures c.index-deref-number.is in
    record { rows = trip.rows; frequent = trip.frequent; sound = trip.sound }
