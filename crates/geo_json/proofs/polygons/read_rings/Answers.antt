use Rattle.std.proofs.Common.{◌∙◌, ◌∷◌, ◌++◌, [], Err, ap, suc, subst, sym}
use Rattle.std.proofs.lemmas.Result.{err_from_is_err_and}
use Rattle.std.specs.List.{flat_map}
use Rattle.feed_meaning.specs.Locations.{ring_checks}
use Rattle.geo_json.specs.Steps.{AreRead, ring_of}
use Rattle.geo_json.proofs.Firsts.{told_err}
use Rattle.geo_json.proofs.ReadOn.{next_read, next_there, one_more, stopped}
use Rattle.geo_json.proofs.polygons.read_rings.Goals as goal

pub read_ring-requires : goal.read_ring-requires
read_ring-requires c = (next_there c.args.json.now c.loop-ring.ring-iterator c.in-Some.ring c.next.new.self c.loop-ring.invariant.there c.in-Some.ensures.steps).0

pub returns-in_err-ring-clause-faults : goal.returns-in_err-ring-clause-faults
returns-in_err-ring-clause-faults c = λ j of.
    let p = err_from_is_err_and c.from_residual.result c.from_residual.ensures.1 in
    told_err (flat_map (ring_checks j) (j.items c.args.polygon)) c.from_residual.result c.in_err-ring.field-0.0 (p.1 ∙ ap Err p.2)
    (stopped (ring_checks j) (ring_of j) c.loop-ring.yielded (j.items c.args.polygon) c.loop-ring.ring-iterator c.next.new.self c.loop-ring.rings
    c.in-Some.ring c.in_err-ring.field-0.0 (c.loop-ring.invariant.read j of) (c.loop-ring.invariant.items j of) c.in-Some.ensures.steps (c.in_err-ring.ensures.faults j of))

pub loop-ring-preserved : goal.loop-ring-preserved
loop-ring-preserved c = record {
  there = (suc c.in-Some.ring, (next_there c.args.json.now c.loop-ring.ring-iterator c.in-Some.ring c.next.new.self c.loop-ring.invariant.there c.in-Some.ensures.steps).1);
  items = λ j of. next_read (j.items c.args.polygon) c.loop-ring.yielded c.loop-ring.ring-iterator c.in-Some.ring c.next.new.self (c.loop-ring.invariant.items j of) c.in-Some.ensures.steps;
  read = λ j of.
      subst (AreRead (ring_checks j) (ring_of j) (c.loop-ring.yielded ++ c.in-Some.ring ∷ [])) (sym c.in_ok-push.ensures.ok)
      (one_more (ring_checks j) (ring_of j) c.loop-ring.yielded c.loop-ring.rings c.in-Some.ring c.in_ok-ring.ring (c.loop-ring.invariant.read j of)
      (c.in_ok-ring.ensures.faults j of) (c.in_ok-ring.ensures.value j of));
}
