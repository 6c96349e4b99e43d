use Rattle.std.proofs.Common.{◌∙◌, Err, ap, sym}
use Rattle.std.proofs.lemmas.Result.{err_from_is_err_and}
use Rattle.geo_json.specs.Features.{root_checks}
use Rattle.geo_json.proofs.FeatureChecks.{bad_kind, good_kind}
use Rattle.geo_json.proofs.Firsts.{told_err}
use Rattle.geo_json.proofs.zones.feature_array.Goals as goal

pub returns-in_err-text_member-clause-faults : goal.returns-in_err-text_member-clause-faults
returns-in_err-text_member-clause-faults c = λ j of.
    let p = err_from_is_err_and c.from_residual.result c.from_residual.ensures.1 in
    told_err (root_checks j) c.from_residual.result c.in_err-text_member.field-0.0 (p.1 ∙ ap Err p.2)
    (bad_kind j c.root-collection.result (c.root-collection.ensures.value j of) (sym (c.is_object.ensures.value j of) ∙ c.if-not-is_object.false) c.in_err-text_member.field-0.0 (c.in_err-text_member.ensures j of))

pub returns-clause-faults : goal.returns-clause-faults
returns-clause-faults c = λ j of.
    good_kind j c.root-collection.result (c.root-collection.ensures.value j of) (sym (c.is_object.ensures.value j of) ∙ c.if-not-is_object.false) c.array_member.result
    (c.in_ok-text_member.ensures j of) (c.array_member.ensures.faults j of)
