use Rattle.std.proofs.Common.{◌∙◌, Err, ap, sym}
use Rattle.std.proofs.lemmas.Result.{err_from_is_err_and}
use Rattle.geo_json.specs.Features.{own_checks}
use Rattle.geo_json.proofs.FeatureChecks.{bad_id, bad_place, good_parts}
use Rattle.geo_json.proofs.Firsts.{told_err}
use Rattle.geo_json.proofs.features.own_parts.Goals as goal

pub returns-in_err-id-clause-faults : goal.returns-in_err-id-clause-faults
returns-in_err-id-clause-faults c = λ j of.
    let p = err_from_is_err_and c.from_residual-in_err-id.result c.from_residual-in_err-id.ensures.1 in
    told_err (own_checks j c.args.feature) c.from_residual-in_err-id.result c.in_err-id.field-0.0 (p.1 ∙ ap Err p.2)
    (bad_id j c.args.feature (sym (c.is_object.ensures.value j of) ∙ c.if-not-is_object.false) (c.in_ok-text_member.ensures j of) c.in_err-id.field-0.0 (c.in_err-id.ensures.faults j of))

pub returns-in_err-geometry-clause-faults : goal.returns-in_err-geometry-clause-faults
returns-in_err-geometry-clause-faults c = λ j of.
    let p = err_from_is_err_and c.from_residual-in_err-geometry.result c.from_residual-in_err-geometry.ensures.1 in
    told_err (own_checks j c.args.feature) c.from_residual-in_err-geometry.result c.in_err-geometry.field-0.0 (p.1 ∙ ap Err p.2)
    (bad_place j c.args.feature (sym (c.is_object.ensures.value j of) ∙ c.if-not-is_object.false) (c.in_ok-text_member.ensures j of) c.in_err-geometry.field-0.0
    (c.in_ok-id.ensures.faults j of) (c.in_err-geometry.ensures.faults j of))

pub returns-clause-faults : goal.returns-clause-faults
returns-clause-faults c = λ j of.
    good_parts j c.args.feature (sym (c.is_object.ensures.value j of) ∙ c.if-not-is_object.false) (c.in_ok-text_member.ensures j of) (c.in_ok-id.ensures.faults j of) (c.in_ok-geometry.ensures.faults j of)
