use Rattle.std.proofs.Common.{◌∙◌, ◌∷◌, [], Err, ap}
use Rattle.std.proofs.lemmas.Result.{err_from_is_err_and}
use Rattle.std.specs.List.{flat_map}
use Rattle.feed_meaning.specs.Locations.{polygon_checks}
use Rattle.geo_json.proofs.Firsts.{stops, told_err}
use Rattle.geo_json.proofs.polygons.read_one.Goals as goal

pub returns-in_err-polygon-clause-faults : goal.returns-in_err-polygon-clause-faults
returns-in_err-polygon-clause-faults c = λ j of.
    let p = err_from_is_err_and c.from_residual.result c.from_residual.ensures.1 in
    told_err (flat_map (polygon_checks j) (c.args.polygon ∷ [])) c.from_residual.result c.in_err-polygon.field-0.0 (p.1 ∙ ap Err p.2)
    (stops (polygon_checks j c.args.polygon) [] c.in_err-polygon.field-0.0 (c.in_err-polygon.ensures.faults j of))
