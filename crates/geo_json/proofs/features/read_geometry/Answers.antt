use Rattle.std.proofs.Common.{◌∙◌, Err, ap, sym}
use Rattle.std.proofs.lemmas.Result.{err_from_is_err_and}
use Rattle.feed_meaning.specs.Locations.{geometry_checks, polygon_of}
use Rattle.geo_json.proofs.FeatureChecks.{bad_coordinates, bad_form, empty_coordinates, good_coordinates, good_polygons}
use Rattle.geo_json.proofs.Firsts.{told_err}
use Rattle.geo_json.proofs.features.read_geometry.Goals as goal

pub returns-in_err-form-clause-faults : goal.returns-in_err-form-clause-faults
returns-in_err-form-clause-faults c = λ j of.
    let p = err_from_is_err_and c.from_residual.result c.from_residual.ensures.1 in
    told_err (geometry_checks j c.args.geometry) c.from_residual.result c.in_err-form.field-0.0 (p.1 ∙ ap Err p.2)
    (bad_form j c.args.geometry c.in_err-form.field-0.0 (c.in_err-form.ensures.faults j of))

pub returns-in_err-coordinates-clause-faults : goal.returns-in_err-coordinates-clause-faults
returns-in_err-coordinates-clause-faults c = λ j of.
    let p = err_from_is_err_and c.from_residual-in_err-coordinates.result c.from_residual-in_err-coordinates.ensures.1 in
    told_err (geometry_checks j c.args.geometry) c.from_residual-in_err-coordinates.result c.in_err-coordinates.field-0.0 (p.1 ∙ ap Err p.2)
    (bad_coordinates j c.args.geometry c.in_err-coordinates.field-0.0 (c.in_ok-form.ensures.faults j of) (c.in_err-coordinates.ensures.faults j of))

pub returns-then-not-is_filled-clause-faults : goal.returns-then-not-is_filled-clause-faults
returns-then-not-is_filled-clause-faults c = λ j of.
    empty_coordinates j c.args.geometry (c.in_ok-form.ensures.faults j of) (c.in_ok-coordinates.ensures.faults j of) c.in_ok-coordinates.coordinates (c.in_ok-coordinates.ensures.value j of)
    c.fault_at.result (sym (c.is_filled.ensures.value j of) ∙ c.if-not-is_filled.true) (c.fault_at.ensures j of)

pub returns-clause-faults : goal.returns-clause-faults
returns-clause-faults c = λ j of.
    good_coordinates j c.args.geometry (c.in_ok-form.ensures.faults j of) (c.in_ok-coordinates.ensures.faults j of) c.in_ok-coordinates.coordinates (c.in_ok-coordinates.ensures.value j of)
    c.in_ok-form.form c.read_polygons.result (c.in_ok-form.ensures.value j of) (sym (c.is_filled.ensures.value j of) ∙ c.if-not-is_filled.false) (c.read_polygons.ensures.faults j of)

pub returns-clause-value : goal.returns-clause-value
returns-clause-value c = λ j of.
    good_polygons j c.args.geometry (c.in_ok-form.ensures.faults j of) (c.in_ok-coordinates.ensures.faults j of) c.in_ok-coordinates.coordinates (c.in_ok-coordinates.ensures.value j of)
    c.in_ok-form.form (polygon_of j) c.read_polygons.result (c.in_ok-form.ensures.value j of) (c.read_polygons.ensures.value j of)
