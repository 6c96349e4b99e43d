-- Where the trip runs on the day.
use Rattle.std.proofs.Common.{◌≡◌, w32, to_z, of_z, sym, ◌∙◌, subst}
use Rattle.std.proofs.lemmas.Bool.{false≢true}
use Rattle.std.proofs.lemmas.Int.{to_z-of_z}
use Rattle.flex_model.proofs.Found.{slice_get_unique}
use Rattle.service_days.specs.Running.{IsRunning}
use Rattle.flex_trips.proofs.Legs.{none_running, trip_at}
use Rattle.flex_trips.proofs.run.flex_run.Goals as goal

pub returns-then-not-is_running : goal.returns-then-not-is_running
returns-then-not-is_running c =
    let feed = c.args.feed.now in
    let days = c.args.days.now in
    let trip = c.index-deref-trip.result in
    let on = to_z-of_z w32 c.args.day c.ranges.day in
    none_running feed c.args.times.now days c.args.trip c.args.day c.args.from_row c.args.to_row c.args.board c.args.alight trip
    (trip_at feed c.deref.result.now c.args.trip c.args.from_row c.args.to_row trip c.deref.ensures c.index-deref-trip.is c.requires.rows)
    (λ running. false≢true (sym c.if-not-is_running.true ∙ c.is_running.ensures.1 (subst (IsRunning feed days trip) (sym on) running)))

pub running_flex_run-requires-clause-running : goal.running_flex_run-requires-clause-running
running_flex_run-requires-clause-running c = λ record' of.
    let feed = c.args.feed.now in
    let days = c.args.days.now in
    let trip = c.index-deref-trip.result in
    let at = trip_at feed c.deref.result.now c.args.trip c.args.from_row c.args.to_row trip c.deref.ensures c.index-deref-trip.is c.requires.rows in
    let same : trip ≡ record' = slice_get_unique feed.trips c.args.trip trip record' at of in
    subst (λ t. IsRunning feed days t (to_z w32 (of_z w32 c.args.day))) same (c.is_running.ensures.0 c.if-not-is_running.false)
