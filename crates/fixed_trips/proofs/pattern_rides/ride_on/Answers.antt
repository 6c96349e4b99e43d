-- The run of the leg between the two stops has one ride.
use Rattle.std.proofs.Common.{◌≡◌, ◌↔◌, IfSome, None, Some, get_or, length, slice_get, w32, w64, to_z, of_z, rules, refl, sym, ◌∙◌, ap, subst}
use Rattle.std.proofs.lemmas.Int.{to_z-of_z}
use Rattle.std.proofs.lemmas.Option.{none-some, slice_get_read, slice_get_within}
use Rattle.flex_model.specs.declared.ride.Arrives.TheVariants.{At}
use Rattle.flex_model.specs.declared.trip.Trip.{Trip}
use Rattle.flex_model.specs.Place.{Serves}
use Rattle.flex_model.specs.Run.{IsRunOf}
use Rattle.flex_model.proofs.Found.{slice_get_unique}
use Rattle.fixed_trips.specs.Patterns.{HasPattern}
use Rattle.fixed_trips.specs.PatternParts.{IsTripRide}
use Rattle.fixed_trips.specs.Timed.{IsSingle}
use Rattle.fixed_trips.proofs.PatternRides.{Names, got, made, with_run, without_run}
use Rattle.fixed_trips.proofs.pattern_rides.ride_on.Goals as goal

pub returns-in_default-fixed_run : goal.returns-in_default-fixed_run
returns-in_default-fixed_run c = λ times ride.
    let feed = c.args.feed.now in
    let trip = c.index-deref-trip.result in
    let h = c.requires.trip in
    let at : slice_get feed.trips c.args.trip ≡ Some trip =
    slice_get_read feed.trips (length feed.trips) c.args.trip trip refl (slice_get_within feed.trips c.args.trip h.0 h.1) (c.index-deref-trip.is ∙ ap (λ xs. get_or xs c.args.trip trip) c.deref.ensures) in
    let has : HasPattern trip = subst HasPattern (slice_get_unique feed.trips c.args.trip h.0 trip h.1 at) h.2 in
    let read : c.as_slice-rows.result.now ≡ trip.rows = c.as_slice-rows.ensures ∙ ap (λ (t : Trip). t.rows) (sym c.index-deref-trip.is) in
    let boarding = c.in-Some.boarding.now in
    let alighting = c.in-Some-get.alighting.now in
    let at_from : slice_get trip.rows c.args.from_row ≡ Some boarding =
    subst (λ rows. slice_get rows c.args.from_row ≡ Some boarding) read (got c.as_slice-rows.result.now c.get.result c.in-Some.boarding c.args.from_row c.get.ensures.lookup.0 c.get.ensures.lookup.1 c.in-Some.is) in
    let at_to : slice_get trip.rows c.args.to_row ≡ Some alighting =
    subst (λ rows. slice_get rows c.args.to_row ≡ Some alighting) read (got c.as_slice-rows.result.now c.get-2.result c.in-Some-get.alighting c.args.to_row c.get-2.ensures.lookup.0 c.get-2.ensures.lookup.1 c.in-Some-get.is) in
    let board = c.in-Some-stop_named.board in
    let alight = c.in-Some-stop_named-2.alight in
    let boards : Names feed times boarding board = λ place. subst (λ o. (o ≡ Some place) ↔ Serves feed times boarding.spot place) c.in-Some-stop_named.is (c.stop_named.ensures feed times place) in
    let alights : Names feed times alighting alight = λ place. subst (λ o. (o ≡ Some place) ↔ Serves feed times alighting.spot place) c.in-Some-stop_named-2.is (c.stop_named-2.ensures feed times place) in
    let day : to_z w32 (of_z w32 c.args.day) ≡ c.args.day = to_z-of_z w32 c.args.day c.ranges.day in (
      λ e. absurd (none-some ride e),
      λ r. absurd (without_run feed times c.args.days.now c.args.trip c.args.day c.args.from_row c.args.to_row trip boarding alighting board alight at has at_from at_to boards alights
          (subst (λ d. IsRunOf feed times c.args.days.now (record { trip = c.args.trip; day = d; start = None; from_row = c.args.from_row; to_row = c.args.to_row; board = board; alight = alight }) None) day
          (subst (IsRunOf feed times c.args.days.now (record { trip = c.args.trip; day = to_z w32 (of_z w32 c.args.day); start = None; from_row = c.args.from_row; to_row = c.args.to_row; board = board; alight = alight })) c.in_default-fixed_run.is
          (c.fixed_run.ensures.rides times))) ride r),
    )

pub returns : goal.returns
returns c = λ times ride.
    let feed = c.args.feed.now in
    let trip = c.index-deref-trip.result in
    let h = c.requires.trip in
    let at : slice_get feed.trips c.args.trip ≡ Some trip =
    slice_get_read feed.trips (length feed.trips) c.args.trip trip refl (slice_get_within feed.trips c.args.trip h.0 h.1) (c.index-deref-trip.is ∙ ap (λ xs. get_or xs c.args.trip trip) c.deref.ensures) in
    let has : HasPattern trip = subst HasPattern (slice_get_unique feed.trips c.args.trip h.0 trip h.1 at) h.2 in
    let read : c.as_slice-rows.result.now ≡ trip.rows = c.as_slice-rows.ensures ∙ ap (λ (t : Trip). t.rows) (sym c.index-deref-trip.is) in
    let boarding = c.in-Some.boarding.now in
    let alighting = c.in-Some-get.alighting.now in
    let at_from : slice_get trip.rows c.args.from_row ≡ Some boarding =
    subst (λ rows. slice_get rows c.args.from_row ≡ Some boarding) read (got c.as_slice-rows.result.now c.get.result c.in-Some.boarding c.args.from_row c.get.ensures.lookup.0 c.get.ensures.lookup.1 c.in-Some.is) in
    let at_to : slice_get trip.rows c.args.to_row ≡ Some alighting =
    subst (λ rows. slice_get rows c.args.to_row ≡ Some alighting) read (got c.as_slice-rows.result.now c.get-2.result c.in-Some-get.alighting c.args.to_row c.get-2.ensures.lookup.0 c.get-2.ensures.lookup.1 c.in-Some-get.is) in
    let board = c.in-Some-stop_named.board in
    let alight = c.in-Some-stop_named-2.alight in
    let boards : Names feed times boarding board = λ place. subst (λ o. (o ≡ Some place) ↔ Serves feed times boarding.spot place) c.in-Some-stop_named.is (c.stop_named.ensures feed times place) in
    let alights : Names feed times alighting alight = λ place. subst (λ o. (o ≡ Some place) ↔ Serves feed times alighting.spot place) c.in-Some-stop_named-2.is (c.stop_named-2.ensures feed times place) in
    let day : to_z w32 (of_z w32 c.args.day) ≡ c.args.day = to_z-of_z w32 c.args.day c.ranges.day in
    let run = c.in-Some-fixed_run.run' in
    let first : to_z w64 (of_z w64 run.first) ≡ run.first = to_z-of_z w64 run.first (search rules) in
    let last : to_z w64 (of_z w64 c.in-At.arrives) ≡ c.in-At.arrives = to_z-of_z w64 c.in-At.arrives (search rules) in
    let last_is : run.arrives ≡ At c.in-At.arrives = c.in-At.is in
    let is_run =
    subst (λ d. IsRunOf feed times c.args.days.now (record { trip = c.args.trip; day = d; start = None; from_row = c.args.from_row; to_row = c.args.to_row; board = board; alight = alight }) (Some run)) day
    (subst (IsRunOf feed times c.args.days.now (record { trip = c.args.trip; day = to_z w32 (of_z w32 c.args.day); start = None; from_row = c.args.from_row; to_row = c.args.to_row; board = board; alight = alight })) c.in-Some-fixed_run.is
    (c.fixed_run.ensures.rides times)) in
    let single = subst (λ o. IfSome o IsSingle) c.in-Some-fixed_run.is c.fixed_run.ensures.single in
    subst (λ r. (Some r ≡ Some ride) ↔ IsTripRide feed times c.args.days.now c.args.trip c.args.day c.args.from_row c.args.to_row ride)
    (sym (made c.args.trip c.args.from_row c.args.to_row board alight (to_z w32 (of_z w32 c.args.day)) c.args.day (to_z w64 (of_z w64 run.first)) run.first (to_z w64 (of_z w64 c.in-At.arrives)) c.in-At.arrives day first last))
    (with_run feed times c.args.days.now c.args.trip c.args.day c.args.from_row c.args.to_row trip boarding alighting board alight at has at_from at_to boards alights run c.in-At.arrives is_run single last_is ride)
