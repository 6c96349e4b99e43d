use Rattle.std.proofs.Common.{◌≡◌, map, subst}
use Rattle.std.specs.List.{AllZip}
use Rattle.std.proofs.lemmas.Result.{IfOk-weaker}
use Rattle.flex_model.specs.declared.fault.InputFile.TheVariants.{Trips}
use Rattle.feed_meaning.specs.FeedLinks.{Tables}
use Rattle.feed_meaning.specs.FeedValue.{trip_of}
use Rattle.feed_load.specs.WholeTrips.{AreTripTables, IsWhole}
use Rattle.feed_load.proofs.WholeTripFacts.{trips_are}
use Rattle.feed_load.proofs.whole_trips.all_trips.Goals as goal

pub returns : goal.returns
returns c =
    let trips = c.args.trips.now in
    let stop_times = c.args.stop_times.now in
    let frequencies = c.args.frequencies in
    let ids = c.args.ids.now in
    IfOk-weaker c.whole_trips.result (AllZip IsWhole c.in_ok-found.found.items) (λ ts. (tables : Tables) → AreTripTables trips stop_times frequencies ids tables → ts ≡ map (trip_of tables) (tables Trips))
    (λ ts all tables of. trips_are trips stop_times frequencies ids tables of c.requires.records c.requires.headways ts (subst (λ xs. AllZip IsWhole xs ts) c.in_ok-found.ensures all))
    c.whole_trips.ensures
