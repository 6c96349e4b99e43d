use Rattle.std.proofs.Common.{refl, subst}
use Rattle.feed_meaning.specs.Told.{told_folder}
use Rattle.feed_load.specs.Loads.{IsLoaded}
use Rattle.feed_load.proofs.FetchedFolders.{told_both}
use Rattle.flexplan.specs.Words.{paths}
use Rattle.flexplan.proofs.Opening.{with_faulty_feed, with_feed}
use Rattle.flexplan.proofs.input.open_input.Goals as goal

pub returns-in-Clean-clause-opened : goal.returns-in-Clean-clause-opened
returns-in-Clean-clause-opened g c =
    let its = paths c.args.input.now in
    told_both _ _ _ _ _ c.in_ok-feed.ensures.told c.in_ok-feed.ensures.loaded c.open_times.ensures.opened (λ files loaded opened.
    with_feed files its c.in-Clean.feed c.open_times.result (subst (IsLoaded (told_folder files its.feed)) c.in-Clean.is loaded) opened)

pub returns-in-Faulty-clause-opened : goal.returns-in-Faulty-clause-opened
returns-in-Faulty-clause-opened g c =
    let told = g.F.Files.told c.args.files.now in
    let its = paths c.args.input.now in
    let known = c.in_ok-feed.ensures.loaded in
    told_both told told _ _ _ refl known known (λ files loaded also.
    with_faulty_feed files its c.in-Faulty.faults (subst (IsLoaded (told_folder files its.feed)) c.in-Faulty.is loaded))
