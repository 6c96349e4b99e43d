use Rattle.std.proofs.Common.{◌∙◌, Err, ap}
use Rattle.std.proofs.lemmas.Result.{err_from_is_err_and}
use Rattle.feed_meaning.specs.Locations.{checks}
use Rattle.geo_json.proofs.FeatureChecks.{bad_collection}
use Rattle.geo_json.proofs.Firsts.{told_err}
use Rattle.geo_json.proofs.zones.read_features.Goals as goal

pub returns-in_err-array-clause-faults : goal.returns-in_err-array-clause-faults
returns-in_err-array-clause-faults c = λ j of.
    let p = err_from_is_err_and c.from_residual.result c.from_residual.ensures.1 in
    told_err (checks j) c.from_residual.result c.in_err-array.field-0.0 (p.1 ∙ ap Err p.2)
    (bad_collection j c.in_err-array.field-0.0 (c.in_err-array.ensures.faults j of))
