use Rattle.std.proofs.Common.{IfSome, subst}
use Rattle.feed_load.proofs.FetchedFolders.{told_both}
use Rattle.flexplan.specs.Words.{check, paths}
use Rattle.flexplan.specs.Opened.{IsOpened, IsSoundOpening}
use Rattle.flexplan.proofs.Reply.{check_refused, refusal_finishes, refused}
use Rattle.flexplan.proofs.run.perform_check.Goals as goal

pub returns-in-Accepted-clause-printed : goal.returns-in-Accepted-clause-printed
returns-in-Accepted-clause-printed g c =
    let told = g.F.Files.told c.args.files.now in
    let its = paths c.args.input.now in
    let opened = subst (λ o. IfSome told (λ files. IsOpened files its o)) c.in-Accepted.is c.in_ok-held.ensures.opened in
    told_both _ _ _ _ _ c.in_ok-held.ensures.told opened c.perform_verdict.ensures.printed (λ files is verdict. verdict its is)

pub returns-in-Refused-clause-printed : goal.returns-in-Refused-clause-printed
returns-in-Refused-clause-printed g c =
    let told = g.F.Files.told c.args.files.now in
    let its = paths c.args.input.now in
    let status = c.in-Refused.status in
    let faults = c.in-Refused.faults in
    let opened = subst (λ o. IfSome told (λ files. IsOpened files its o)) c.in-Refused.is c.in_ok-held.ensures.opened in
    let final = refusal_finishes status faults (subst IsSoundOpening c.in-Refused.is c.in_ok-held.ensures.sound) in
    let printed = rw c.as_slice.ensures at c.print_faults.ensures.printed in
    refused (check its c.args.cert.now) told status faults (g.O.Sink.contents c.args.out.now) (g.O.Sink.contents c.print_faults.new.out) c.print_faults.result c.ended.result final
    (check_refused told its c.args.cert.now status faults opened) c.ended.ensures.end printed
