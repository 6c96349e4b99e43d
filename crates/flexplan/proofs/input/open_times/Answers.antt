use Rattle.std.proofs.Common.{refl, subst}
use Rattle.feed_meaning.specs.Told.{told_folder}
use Rattle.place_times.specs.Loads.{AreLoaded}
use Rattle.flexplan.specs.Words.{paths}
use Rattle.feed_load.proofs.FetchedFolders.{told_both}
use Rattle.flexplan.proofs.Opening.{with_faulty_times, with_times}
use Rattle.flexplan.proofs.input.open_times.Goals as goal

pub returns-in-Clean-clause-opened : goal.returns-in-Clean-clause-opened
returns-in-Clean-clause-opened g c =
    let its = paths c.args.input.now in
    told_both _ _ _ _ _ c.in_ok-times.ensures.told c.in_ok-times.ensures.loaded c.open_queries.ensures.opened (λ files loaded opened. λ geo holds.
    opened geo its refl (with_times geo files its c.args.feed c.in-Clean.times c.in-Clean.zone holds (subst (AreLoaded c.args.feed (told_folder files its.times)) c.in-Clean.is loaded)))

pub returns-in-Faulty-clause-opened : goal.returns-in-Faulty-clause-opened
returns-in-Faulty-clause-opened g c =
    let told = g.F.Files.told c.args.files.now in
    let its = paths c.args.input.now in
    let known = c.in_ok-times.ensures.loaded in
    told_both told told _ _ _ refl known known (λ files loaded also. λ geo holds.
    with_faulty_times geo files its c.args.feed c.in-Faulty.faults holds (subst (AreLoaded c.args.feed (told_folder files its.times)) c.in-Faulty.is loaded))
