use Rattle.std.proofs.Common.{◌≡◌, [], Err, inl, refl, rules, subst, sym}
use Rattle.flexplan.specs.Answers.{one_line}
use Rattle.flexplan.specs.Reply.{MayHavePrinted, status_of}
use Rattle.flexplan.specs.Words.{check}
use Rattle.flexplan.specs.declared.status.Failure.TheVariants as failure
use Rattle.flexplan.proofs.Gains.{gains_nothing}
use Rattle.flexplan.proofs.Reply.{check_accepted, ended_with, if_told, judged_finishes}
use Rattle.flexplan.proofs.run.perform_verdict.Goals as goal

pub ended-requires : goal.ended-requires
ended-requires g c =
    let held = c.args.held.now in
    let judged = c.in_ok-judged.judged in
    judged_finishes held.feed held.times held.zone held.queries c.in_ok-raw.raw judged.status judged.line c.in_ok-judged.ensures

pub returns-clause-printed : goal.returns-clause-printed
returns-clause-printed g c =
    let held = c.args.held.now in
    let judged = c.in_ok-judged.judged in
    let final = judged_finishes held.feed held.times held.zone held.queries c.in_ok-raw.raw judged.status judged.line c.in_ok-judged.ensures in
    if_told (g.F.Files.told c.args.files.now) _ _ c.in_ok-raw.ensures.fetched (λ files raw_is. λ its opened.
    ended_with (check its c.args.cert.now) files judged.status (one_line judged.line) (g.O.Sink.contents c.args.out.now) (g.O.Sink.contents c.print_line.new.out) c.print_line.result c.ended.result final
    (judged.line, refl) (check_accepted files its c.args.cert.now held c.in_ok-raw.raw judged.status judged.line opened raw_is c.in_ok-judged.ensures) c.ended.ensures.end c.print_line.ensures.printed)

pub returns-in_err-judged-clause-printed : goal.returns-in_err-judged-clause-printed
returns-in_err-judged-clause-printed g c =
    let all : c.from_residual-in_err-judged.result ≡ Err failure.NoMemory = search rules in
    if_told (g.F.Files.told c.args.files.now) _ _ c.in_ok-raw.ensures.fetched (λ files raw_is. λ its opened.
    gains_nothing _ _ (subst (λ r. MayHavePrinted (check its c.args.cert.now) files (status_of r) []) (sym all) (inl refl)))
