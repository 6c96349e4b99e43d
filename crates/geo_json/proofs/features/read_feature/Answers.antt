use Rattle.std.proofs.Common.{◌∙◌, Err, ap}
use Rattle.std.proofs.lemmas.Result.{err_from_is_err_and}
use Rattle.feed_meaning.specs.Locations.{feature_checks}
use Rattle.geo_json.proofs.FeatureChecks.{bad_parts}
use Rattle.geo_json.proofs.Firsts.{told_err}
use Rattle.geo_json.proofs.features.read_feature.Goals as goal

pub returns-in_err-parts-clause-faults : goal.returns-in_err-parts-clause-faults
returns-in_err-parts-clause-faults c = λ j of.
    let p = err_from_is_err_and c.from_residual.result c.from_residual.ensures.1 in
    told_err (feature_checks j c.args.feature) c.from_residual.result c.in_err-parts.field-0.0 (p.1 ∙ ap Err p.2)
    (bad_parts j c.args.feature c.in_err-parts.field-0.0 (c.in_err-parts.ensures.faults j of))
