use Rattle.std.proofs.Common.{IfSome, subst}
use Rattle.feed_meaning.specs.Told.{told_folder}
use Rattle.feed_load.specs.Loads.{IsLoaded}
use Rattle.flexplan.specs.Words.{lint}
use Rattle.flexplan.specs.declared.status.Status.TheVariants.{FeedFaulty}
use Rattle.flexplan.proofs.Reply.{lint_clean, lint_faulty, refused}
use Rattle.flexplan.proofs.run.perform_lint.Goals as goal

pub returns-in-Clean-clause-printed : goal.returns-in-Clean-clause-printed
returns-in-Clean-clause-printed g c =
    let told = g.F.Files.told c.args.files.now in
    let folder = c.args.folder.now in
    let loaded = subst (λ l. IfSome told (λ files. IsLoaded (told_folder files folder) l)) c.in-Clean.is c.in_ok-load.ensures.loaded in
    lint_clean told folder c.in-Clean.field-0 (g.O.Sink.contents c.args.out.now) loaded

pub returns-clause-printed : goal.returns-clause-printed
returns-clause-printed g c =
    let told = g.F.Files.told c.args.files.now in
    let folder = c.args.folder.now in
    let faults = c.in-Faulty.faults in
    let loaded = subst (λ l. IfSome told (λ files. IsLoaded (told_folder files folder) l)) c.in-Faulty.is c.in_ok-load.ensures.loaded in
    let printed = rw c.as_slice.ensures at c.print_faults.ensures.printed in
    refused (lint folder) told FeedFaulty faults (g.O.Sink.contents c.args.out.now) (g.O.Sink.contents c.print_faults.new.out) c.print_faults.result c.ended.result tt (lint_faulty told folder faults loaded) c.ended.ensures.end printed
