use mir.Syntax.{w64}
use Rattle.std.proofs.Common.{rules, subst, sym}
use Rattle.std.proofs.lemmas.Int.{to_z-of_z}
use Rattle.cert_check.proofs.PrintedReasons.{reasons_printable}
use Rattle.cert_check.specs.Reasons.{IsVerdict}
use Rattle.flexplan.proofs.verdict.judge_part.Goals as goal

pub write_refusal-requires : goal.write_refusal-requires
write_refusal-requires c =
    let feed = c.args.input.now.feed in
    let times = c.args.input.now.times in
    let days = c.in_ok-days.days in
    let query = c.args.query.now in
    let verdict = subst (IsVerdict feed times days query c.args.part.now) c.in-No.is c.in_ok-check.ensures.verdict in
    reasons_printable feed times days query c.args.part.now c.in-No.reason c.requires.input.feed c.requires.input.times c.in_ok-days.ensures.sound
    (c.in_ok-days.ensures.of_query query (sym (to_z-of_z w64 query.depart (search rules)))) c.requires.query verdict.0.applies
