use Rattle.std.proofs.Common.{◌∙◌, ◌∷◌, ◌++◌, [], Err, ap, suc, subst, sym}
use Rattle.std.proofs.lemmas.Result.{err_from_is_err_and}
use Rattle.std.specs.List.{flat_map}
use Rattle.feed_meaning.specs.Locations.{position_checks, position_of}
use Rattle.geo_json.specs.Steps.{AreRead}
use Rattle.geo_json.proofs.Firsts.{told_err}
use Rattle.geo_json.proofs.ReadOn.{next_read, next_there, one_more, stopped}
use Rattle.geo_json.proofs.rings.read_corners.Goals as goal

pub read_position-requires : goal.read_position-requires
read_position-requires c = (next_there c.args.json.now c.loop-position.position-iterator c.in-Some.position c.next.new.self c.loop-position.invariant.there c.in-Some.ensures.steps).0

pub returns-in_err-corner-clause-faults : goal.returns-in_err-corner-clause-faults
returns-in_err-corner-clause-faults c = λ j of.
    let p = err_from_is_err_and c.from_residual.result c.from_residual.ensures.1 in
    told_err (flat_map (position_checks j) (j.items c.args.ring)) c.from_residual.result c.in_err-corner.field-0.0 (p.1 ∙ ap Err p.2)
    (stopped (position_checks j) (position_of j) c.loop-position.yielded (j.items c.args.ring) c.loop-position.position-iterator c.next.new.self c.loop-position.corners
    c.in-Some.position c.in_err-corner.field-0.0 (c.loop-position.invariant.read j of) (c.loop-position.invariant.items j of) c.in-Some.ensures.steps (c.in_err-corner.ensures.faults j of))

pub loop-position-preserved : goal.loop-position-preserved
loop-position-preserved c = record {
  there = (suc c.in-Some.position, (next_there c.args.json.now c.loop-position.position-iterator c.in-Some.position c.next.new.self c.loop-position.invariant.there c.in-Some.ensures.steps).1);
  items = λ j of. next_read (j.items c.args.ring) c.loop-position.yielded c.loop-position.position-iterator c.in-Some.position c.next.new.self (c.loop-position.invariant.items j of) c.in-Some.ensures.steps;
  read = λ j of.
      subst (AreRead (position_checks j) (position_of j) (c.loop-position.yielded ++ c.in-Some.position ∷ [])) (sym c.in_ok-push.ensures.ok)
      (one_more (position_checks j) (position_of j) c.loop-position.yielded c.loop-position.corners c.in-Some.position c.in_ok-corner.corner (c.loop-position.invariant.read j of)
      (c.in_ok-corner.ensures.faults j of) (c.in_ok-corner.ensures.value j of));
}
