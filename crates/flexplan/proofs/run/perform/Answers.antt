use Rattle.std.proofs.Common.{◌≡◌, IfSome, refl, subst}
use Rattle.flex_io.specs.Outside.{Gains}
use Rattle.flexplan.specs.Certified.{IsCertified}
use Rattle.flexplan.specs.Words.{certify, paths, request}
use Rattle.flexplan.proofs.Reply.{certify_one}
use Rattle.flexplan.proofs.run.perform.Goals as goal

pub returns-in-Certify-clause-certified : goal.returns-in-Certify-clause-certified
returns-in-Certify-clause-certified g c = λ its is done.
    let same = certify_one (paths c.in-Certify.input) its (subst (λ command. request command ≡ certify its) c.in-Certify.is is) in
    subst (λ p. IfSome (g.F.Files.told c.args.files.now) (λ told. Gains (g.O.Sink.contents c.args.out.now) (g.O.Sink.contents c.perform_queries-in-Certify.new.out) (IsCertified told p))) same
    (c.perform_queries-in-Certify.ensures.certified refl done)
