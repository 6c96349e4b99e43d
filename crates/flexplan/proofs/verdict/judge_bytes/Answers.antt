use Rattle.std.proofs.Common.{rules}
use Rattle.flex_model.specs.declared.fault.RawFile.TheVariants.{Bytes}
use Rattle.flexplan.specs.Checked.{IsJudged, refusal_text, syntax}
use Rattle.flexplan.specs.declared.status.Status.TheVariants.{CertRefused}
use Rattle.flexplan.proofs.Verdicts.{judged_syntax, said_as}
use Rattle.flexplan.proofs.verdict.judge_bytes.Goals as goal

pub returns-in-Err-Syntax : goal.returns-in-Err-Syntax
returns-in-Err-Syntax c =
    let input = c.args.input.now in
    let bytes = c.args.bytes.now in
    let number = c.in-Err-Syntax.line in
    said_as (IsJudged input.feed input.times input.zone input.queries (Bytes bytes)) CertRefused c.refused.result (refusal_text input.feed input.times (syntax number))
    c.refused.ensures.status c.refused.ensures.line (judged_syntax input.feed input.times input.zone input.queries bytes number (c.read_cert.ensures.syntax number (search rules)))
