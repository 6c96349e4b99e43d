use Rattle.std.proofs.Common.{◌≡◌, map, sym, ◌∙◌, ap, subst}
use Rattle.std.proofs.lemmas.Result.{IfOk-weaker}
use Rattle.std.proofs.lemmas.Simd.{map-map}
use Rattle.flex_model.specs.SoundTimes.{AreIds}
use Rattle.feed_rules.specs.Links.{records_in}
use Rattle.feed_load.specs.OpenTrips.{empty_trip, open_trip, with_frequencies, with_stop_times}
use Rattle.feed_load.specs.TableValues.{values_in}
use Rattle.feed_load.specs.declared.open_trips.OpenTrip.{OpenTrip}
use Rattle.feed_load.proofs.PresentTables.{records_are}
use Rattle.feed_load.proofs.Texts.{ids_are}
use Rattle.feed_load.proofs.open_trips.open_trips.Goals as goal

pub with_stop_times-requires : goal.with_stop_times-requires
with_stop_times-requires c =
    let records = values_in c.args.trips.now in
    let services = c.args.ids.now.services in
    let are = ids_are c.args.trips.now "trip_id" c.in_ok-trip_ids.trip_ids c.in_ok-trip_ids.ensures c.requires in
    record {
      are = are ∙ sym (map-map (λ (trip : OpenTrip). trip.id) (empty_trip services) records) ∙ ap (map (λ (trip : OpenTrip). trip.id)) (sym c.in_ok-empty.ensures);
      distinct = subst AreIds (sym are) c.requires;
    }

pub with_frequencies-requires : goal.with_frequencies-requires
with_frequencies-requires c =
    let ids = c.args.ids.now in
    let records = values_in c.args.trips.now in
    let stop_times = values_in c.args.stop_times.now in
    let are = ids_are c.args.trips.now "trip_id" c.in_ok-trip_ids.trip_ids c.in_ok-trip_ids.ensures c.requires in
    let made = c.in_ok-gathered.ensures ∙ ap (map (with_stop_times ids stop_times)) c.in_ok-empty.ensures ∙ map-map (with_stop_times ids stop_times) (empty_trip ids.services) records in
    record {
      are = are ∙ sym (map-map (λ (trip : OpenTrip). trip.id) (λ r. with_stop_times ids stop_times (empty_trip ids.services r)) records) ∙ ap (map (λ (trip : OpenTrip). trip.id)) (sym made);
      distinct = subst AreIds (sym are) c.requires;
    }

pub returns-in-Some : goal.returns-in-Some
returns-in-Some c =
    let ids = c.args.ids.now in
    let records = values_in c.args.trips.now in
    let stop_times = values_in c.args.stop_times.now in
    let table = c.in-Some.table in
    let made = c.in_ok-gathered.ensures ∙ ap (map (with_stop_times ids stop_times)) c.in_ok-empty.ensures ∙ map-map (with_stop_times ids stop_times) (empty_trip ids.services) records in
    IfOk-weaker c.with_frequencies.result
    (λ found. found.items ≡ map (with_frequencies (values_in table.now)) c.in_ok-gathered.gathered.items)
    (λ found. found.items ≡ map (open_trip ids (records_in c.args.frequencies) stop_times) records)
    (λ found is.
    is ∙ ap (map (with_frequencies (values_in table.now))) made ∙ map-map (with_frequencies (values_in table.now)) (λ r. with_stop_times ids stop_times (empty_trip ids.services r)) records
    ∙ ap (λ fs. map (open_trip ids fs stop_times) records) (sym (ap records_in c.in-Some.is ∙ records_are table.now)))
    c.with_frequencies.ensures

pub returns : goal.returns
returns c =
    let ids = c.args.ids.now in
    let records = values_in c.args.trips.now in
    let stop_times = values_in c.args.stop_times.now in
    c.in_ok-gathered.ensures ∙ ap (map (with_stop_times ids stop_times)) c.in_ok-empty.ensures ∙ map-map (with_stop_times ids stop_times) (empty_trip ids.services) records
    ∙ ap (λ fs. map (open_trip ids fs stop_times) records) (sym (ap records_in c.in-None.is))
