use Rattle.std.proofs.Common.{IsUtf8, sym, subst}
use Rattle.flex_model.specs.declared.place.Stop.{Stop}
use Rattle.bound_cert.proofs.Taken.{taken_all, taken_more}
use Rattle.bound_cert.proofs.held.look_at_stops.Goals as goal

pub loop-i-preserved : goal.loop-i-preserved
loop-i-preserved c =
    taken_more (λ x. IsUtf8 x.id) c.args.stops.now c.loop-i.i c.index-stops-i.result c.loop-i-test.true c.index-stops-i.is c.loop-i.invariant
    (subst (λ (x : Stop). IsUtf8 x.id) (sym c.index-stops-i.is) c.as_str-id.ensures.utf8)

pub returns : goal.returns
returns c = taken_all (λ x. IsUtf8 x.id) c.args.stops.now c.loop-i.i c.loop-i-test.false c.loop-i.invariant
