use Rattle.std.proofs.Common.{◌≢◌, ap, length, refl, sym, ◌∙◌}
use Rattle.flex_model.specs.declared.fault.RawFile.{RawFile}
use Rattle.flexplan.specs.Checked.{IsJudged, part_count, refusal_text}
use Rattle.flexplan.specs.Judging.{IsOnlyCert}
use Rattle.flexplan.specs.declared.status.Status.TheVariants.{CertRefused}
use Rattle.flexplan.proofs.Verdicts.{judged_count, said_as}
use Rattle.flexplan.proofs.verdict.judge_cert.Goals as goal

pub returns-then-told-wanted : goal.returns-then-told-wanted
returns-then-told-wanted c =
    let input = c.args.input.now in
    let cert = c.args.cert.now in
    let told = ap length c.as_slice-told.ensures in
    let wanted = ap length c.as_slice-wanted.ensures in
    let differ : length cert.parts ≢ length input.queries = λ same. (let not = c.if-told-wanted.true in absurd (not (told ∙ same ∙ sym wanted))) in
    said_as (λ s t. (raw : RawFile) → IsOnlyCert input.feed input.times raw cert → IsJudged input.feed input.times input.zone input.queries raw s t) CertRefused c.refused.result
    (refusal_text input.feed input.times (part_count (length cert.parts) (length input.queries))) c.refused.ensures.status
    (rw (c.as_slice-told.ensures, c.as_slice-wanted.ensures) at c.refused.ensures.line)
    (λ raw only. judged_count input.feed input.times input.zone input.queries raw cert (refusal_text input.feed input.times (part_count (length cert.parts) (length input.queries))) only differ refl)
