use Rattle.std.proofs.Common.{◌∙◌, ◌∷◌, ◌++◌, [], Err, ap, suc, subst, sym}
use Rattle.std.proofs.lemmas.Result.{err_from_is_err_and}
use Rattle.std.specs.List.{flat_map}
use Rattle.feed_meaning.specs.Locations.{polygon_checks, polygon_of}
use Rattle.geo_json.specs.Steps.{AreRead}
use Rattle.geo_json.proofs.Firsts.{told_err}
use Rattle.geo_json.proofs.ReadOn.{next_read, next_there, one_more, stopped}
use Rattle.geo_json.proofs.polygons.read_several.Goals as goal

pub read_polygon-requires : goal.read_polygon-requires
read_polygon-requires c = (next_there c.args.json.now c.loop-polygon.polygon-iterator c.in-Some.polygon c.next.new.self c.loop-polygon.invariant.there c.in-Some.ensures.steps).0

pub returns-in_err-polygon-clause-faults : goal.returns-in_err-polygon-clause-faults
returns-in_err-polygon-clause-faults c = λ j of.
    let p = err_from_is_err_and c.from_residual.result c.from_residual.ensures.1 in
    told_err (flat_map (polygon_checks j) (j.items c.args.array)) c.from_residual.result c.in_err-polygon.field-0.0 (p.1 ∙ ap Err p.2)
    (stopped (polygon_checks j) (polygon_of j) c.loop-polygon.yielded (j.items c.args.array) c.loop-polygon.polygon-iterator c.next.new.self c.loop-polygon.polygons
    c.in-Some.polygon c.in_err-polygon.field-0.0 (c.loop-polygon.invariant.read j of) (c.loop-polygon.invariant.items j of) c.in-Some.ensures.steps (c.in_err-polygon.ensures.faults j of))

pub loop-polygon-preserved : goal.loop-polygon-preserved
loop-polygon-preserved c = record {
  there = (suc c.in-Some.polygon, (next_there c.args.json.now c.loop-polygon.polygon-iterator c.in-Some.polygon c.next.new.self c.loop-polygon.invariant.there c.in-Some.ensures.steps).1);
  items = λ j of. next_read (j.items c.args.array) c.loop-polygon.yielded c.loop-polygon.polygon-iterator c.in-Some.polygon c.next.new.self (c.loop-polygon.invariant.items j of) c.in-Some.ensures.steps;
  read = λ j of.
      subst (AreRead (polygon_checks j) (polygon_of j) (c.loop-polygon.yielded ++ c.in-Some.polygon ∷ [])) (sym c.in_ok-push.ensures.ok)
      (one_more (polygon_checks j) (polygon_of j) c.loop-polygon.yielded c.loop-polygon.polygons c.in-Some.polygon c.in_ok-polygon.polygon (c.loop-polygon.invariant.read j of)
      (c.in_ok-polygon.ensures.faults j of) (c.in_ok-polygon.ensures.value j of));
}
