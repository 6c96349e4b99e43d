use Rattle.std.proofs.Common.{IfSome, ap, subst, sym, ◌∙◌}
use Rattle.flexplan.specs.Words.{paths}
use Rattle.flexplan.specs.Opened.{IsOpened, IsSoundOpening}
use Rattle.flexplan.specs.Answers.{pieces_of}
use Rattle.flexplan.specs.Reply.{asked, status_of}
use Rattle.flexplan.specs.declared.input.Opened.TheVariants.{Refused}
use Rattle.flexplan.specs.declared.status.Status.TheVariants.{Done}
use Rattle.flexplan.proofs.Gains.{gains_as}
use Rattle.flexplan.proofs.PartTexts.{some_printout}
use Rattle.flexplan.proofs.Reply.{accepted, certified, done_ended, queries_accepted, queries_refused, refusal_finishes, refusal_no_cert, refused}
use Rattle.flexplan.proofs.run.perform_queries.Goals as goal

pub returns-in-Accepted-clause-printed : goal.returns-in-Accepted-clause-printed
returns-in-Accepted-clause-printed g c =
    let told = g.F.Files.told c.args.files.now in
    let held = c.in-Accepted.held in
    let its = paths c.args.input.now in
    let opened = subst (λ o. IfSome told (λ files. IsOpened files its o)) c.in-Accepted.is c.in_ok-held.ensures.opened in
    let sound = subst IsSoundOpening c.in-Accepted.is c.in_ok-held.ensures.sound in
    accepted (asked c.args.printout its) told (pieces_of c.args.printout held.feed held.times held.zone held.queries) (g.O.Sink.contents c.args.out.now) (g.O.Sink.contents c.print_input.new.out) c.print_input.result c.ended.result
    (some_printout c.args.printout held.feed held.times held.zone held.queries sound.feed) (queries_accepted c.args.printout told its held opened) c.ended.ensures.end
    (gains_as _ _ _ _ c.print_input.ensures.printed (λ bytes is. is.pieces))

pub returns-in-Accepted-clause-certified : goal.returns-in-Accepted-clause-certified
returns-in-Accepted-clause-certified g c = λ is done.
    let told = g.F.Files.told c.args.files.now in
    let its = paths c.args.input.now in
    let opened = subst (λ o. IfSome told (λ files. IsOpened files its o)) c.in-Accepted.is c.in_ok-held.ensures.opened in
    let whole = (done_ended Done c.print_input.result (sym (ap status_of c.ended.ensures.end) ∙ done)).1 in
    certified told its c.in-Accepted.held (g.O.Sink.contents c.args.out.now) (g.O.Sink.contents c.print_input.new.out) opened
    (gains_as _ _ _ _ c.print_input.ensures.printed (λ bytes printed. printed.certificate is whole))

pub returns-in-Refused-clause-printed : goal.returns-in-Refused-clause-printed
returns-in-Refused-clause-printed g c =
    let told = g.F.Files.told c.args.files.now in
    let its = paths c.args.input.now in
    let status = c.in-Refused.status in
    let faults = c.in-Refused.faults in
    let opened = subst (λ o. IfSome told (λ files. IsOpened files its o)) c.in-Refused.is c.in_ok-held.ensures.opened in
    let final = refusal_finishes status faults (subst IsSoundOpening c.in-Refused.is c.in_ok-held.ensures.sound) in
    let printed = rw c.as_slice.ensures at c.print_faults.ensures.printed in
    refused (asked c.args.printout its) told status faults (g.O.Sink.contents c.args.out.now) (g.O.Sink.contents c.print_faults.new.out) c.print_faults.result c.ended-in-Refused.result final
    (queries_refused c.args.printout told its status faults opened) c.ended-in-Refused.ensures.end printed

pub returns-in-Refused-clause-certified : goal.returns-in-Refused-clause-certified
returns-in-Refused-clause-certified g c = λ is done.
    let faults = c.in-Refused.faults in
    let status_is = (done_ended c.in-Refused.status c.print_faults.result (sym (ap status_of c.ended-in-Refused.ensures.end) ∙ done)).0 in
    absurd (subst (λ s. IsSoundOpening (Refused s faults)) status_is (subst IsSoundOpening c.in-Refused.is c.in_ok-held.ensures.sound))

pub returns-in-Refused-clause-refused : goal.returns-in-Refused-clause-refused
returns-in-Refused-clause-refused g c =
    c.ended-in-Refused.ensures.refused (refusal_no_cert c.in-Refused.status c.in-Refused.faults (subst IsSoundOpening c.in-Refused.is c.in_ok-held.ensures.sound))
