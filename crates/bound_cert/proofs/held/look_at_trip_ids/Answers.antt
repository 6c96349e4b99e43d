use Rattle.std.proofs.Common.{IsUtf8, sym, subst}
use Rattle.flex_model.specs.declared.trip.Trip.{Trip}
use Rattle.bound_cert.proofs.Taken.{taken_all, taken_more}
use Rattle.bound_cert.proofs.held.look_at_trip_ids.Goals as goal

pub loop-i-preserved : goal.loop-i-preserved
loop-i-preserved c =
    taken_more (λ x. IsUtf8 x.id) c.args.trips.now c.loop-i.i c.index-trips-i.result c.loop-i-test.true c.index-trips-i.is c.loop-i.invariant
    (subst (λ (x : Trip). IsUtf8 x.id) (sym c.index-trips-i.is) c.as_str-id.ensures.utf8)

pub returns : goal.returns
returns c = taken_all (λ x. IsUtf8 x.id) c.args.trips.now c.loop-i.i c.loop-i-test.false c.loop-i.invariant
