use mir.Syntax.{w64}
use Rattle.std.proofs.Common.{rules, ℕ, ◌<◌, All, to_z, of_z, sym, subst}
use Rattle.std.proofs.lemmas.Int.{to_z-of_z}
use Rattle.ride_index.specs.OfferedRuns.{AreOfferedFrom}
use Rattle.cert_check.specs.Modest.{IsModest}
use Rattle.cert_check.specs.Tasks.{IsUnheldOfAny, wanted_from}
use Rattle.cert_check.proofs.HeldRides.{runs_modest, unheld_of_offers}
use Rattle.cert_check.proofs.rides.unheld_from.Goals as goal

pub unheld_of_any-requires-clause-modest : goal.unheld_of_any-requires-clause-modest
unheld_of_any-requires-clause-modest c =
    let task = c.args.task.now in
    let active = c.args.lookups.now.active in
    let runs = c.offers_from.new.into.items in
    let latest = c.latest_asked-latest.result in
    subst (All (λ run. (k : ℕ) → k < run.count → IsModest run k)) (sym c.as_slice.ensures.value)
    (runs_modest task c.requires.task active c.args.boarded.now c.args.place c.args.earliest latest runs c.latest_asked-latest.ensures.low c.latest_asked-latest.ensures.late
    (subst (λ m. AreOfferedFrom (wanted_from task active c.args.place m latest) runs) (to_z-of_z w64 c.args.earliest (search rules))
    (subst (λ m. AreOfferedFrom (wanted_from task active c.args.place (to_z w64 (of_z w64 c.args.earliest)) m) runs) (to_z-of_z w64 latest (search rules))
    (subst (λ w. AreOfferedFrom w runs) c.wanted_at-wanted.ensures c.in_ok-offers_from.ensures))))

pub returns : goal.returns
returns c =
    let task = c.args.task.now in
    let active = c.args.lookups.now.active in
    let runs = c.offers_from.new.into.items in
    let latest = c.latest_asked-latest.result in
    unheld_of_offers task c.requires.task active c.args.boarded.now c.args.place c.args.earliest latest runs c.latest_asked-latest.ensures.low c.latest_asked-latest.ensures.late
    (subst (λ m. AreOfferedFrom (wanted_from task active c.args.place m latest) runs) (to_z-of_z w64 c.args.earliest (search rules))
    (subst (λ m. AreOfferedFrom (wanted_from task active c.args.place (to_z w64 (of_z w64 c.args.earliest)) m) runs) (to_z-of_z w64 latest (search rules))
    (subst (λ w. AreOfferedFrom w runs) c.wanted_at-wanted.ensures c.in_ok-offers_from.ensures)))
    c.unheld_of_any.result
    (subst (λ xs. IsUnheldOfAny task c.args.boarded.now xs c.unheld_of_any.result) c.as_slice.ensures.value c.unheld_of_any.ensures)
