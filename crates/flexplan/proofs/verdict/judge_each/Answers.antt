use Rattle.std.proofs.Common.{length, refl, subst}
use Rattle.flex_model.specs.declared.fault.RawFile.{RawFile}
use Rattle.flexplan.specs.Checked.{IsJudged, valid_line}
use Rattle.flexplan.specs.Judging.{ArePartsJudged, IsOnlyCert}
use Rattle.flexplan.specs.declared.status.Status.TheVariants.{Done}
use Rattle.flexplan.proofs.Verdicts.{judged_bad, judged_valid, said_as}
use Rattle.flexplan.proofs.verdict.judge_each.Goals as goal

pub returns-in-None : goal.returns-in-None
returns-in-None c =
    let input = c.args.input.now in
    let cert = c.args.cert.now in
    let of_cert = subst (λ parts. ArePartsJudged input.feed input.times input.zone input.queries parts c.in_ok-judge_parts.field-0) c.as_slice-parts.ensures c.in_ok-judge_parts.ensures in
    let all = subst (ArePartsJudged input.feed input.times input.zone input.queries cert.parts) c.in-None.is of_cert in
    said_as (λ s t. (raw : RawFile) → IsOnlyCert input.feed input.times raw cert → IsJudged input.feed input.times input.zone input.queries raw s t) Done c.valid.result
    (valid_line (length cert.parts)) c.valid.ensures.status (rw c.as_slice-parts.ensures at c.valid.ensures.line)
    (λ raw only. judged_valid input.feed input.times input.zone input.queries raw cert (valid_line (length cert.parts)) c.requires.input.feed only all refl)

pub returns : goal.returns
returns c = λ raw only.
    let input = c.args.input.now in
    let cert = c.args.cert.now in
    let of_cert = subst (λ parts. ArePartsJudged input.feed input.times input.zone input.queries parts c.in_ok-judge_parts.field-0) c.as_slice-parts.ensures c.in_ok-judge_parts.ensures in
    judged_bad input.feed input.times input.zone input.queries raw cert c.in-Some.text only c.requires.count
    (subst (ArePartsJudged input.feed input.times input.zone input.queries cert.parts) c.in-Some.is of_cert)
