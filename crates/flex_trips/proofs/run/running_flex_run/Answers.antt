-- The rides are those of the trip's two records.
use Rattle.std.proofs.Common.{◌<◌, None, w32, sym, refl, ◌∙◌, arith}
use Rattle.std.proofs.lemmas.Bool.{false≢true}
use Rattle.std.proofs.lemmas.Int.{to_z-of_z}
use Rattle.flex_model.specs.declared.trip.Row.{Row}
use Rattle.flex_model.specs.declared.trip.Spot.TheVariants as spot
use Rattle.flex_model.specs.declared.trip.Timing.TheVariants as timing
use Rattle.flex_model.specs.declared.trip.Way.TheVariants.{No}
use Rattle.flex_model.specs.Run.{Leg, ride_of}
use Rattle.flex_trips.proofs.Legs.{no_run, rows_at, run_of}
use Rattle.flex_trips.proofs.run.running_flex_run.Goals as goal

-- what indexing past the end would give
abbrev no_row : Row
no_row = record { sequence = 0; «spot» = spot.Stop 0; timing = timing.Times 0 0; pickup = No; drop_off = No }

pub timed_run-requires-clause-window : goal.timed_run-requires-clause-window
timed_run-requires-clause-window c =
    (rows_at c.args.feed.now c.deref.result.now c.args.trip c.args.from_row c.args.to_row c.index-deref-trip.result c.as_slice-rows.result.now no_row c.deref.ensures c.index-deref-trip.is c.as_slice-rows.ensures c.requires.rows).window

pub returns-then-to_row-from_row : goal.returns-then-to_row-from_row
returns-then-to_row-from_row c =
    let trip = c.index-deref-trip.result in
    let rows = rows_at c.args.feed.now c.deref.result.now c.args.trip c.args.from_row c.args.to_row trip c.as_slice-rows.result.now no_row c.deref.ensures c.index-deref-trip.is c.as_slice-rows.ensures c.requires.rows in
    no_run c.args.feed.now c.args.times.now c.args.days.now c.args.trip c.args.day c.args.from_row c.args.to_row c.args.board c.args.alight trip _ _ rows.of_trip rows.at_boarding rows.at_alighting
    (λ in_order running no_starts may_ride. (let order : c.args.from_row < c.args.to_row = in_order in omega (arith, order, c.if-to_row-from_row.true)))

pub returns-then-trip_record : goal.returns-then-trip_record
returns-then-trip_record c =
    let trip = c.index-deref-trip.result in
    let rows = rows_at c.args.feed.now c.deref.result.now c.args.trip c.args.from_row c.args.to_row trip c.as_slice-rows.result.now no_row c.deref.ensures c.index-deref-trip.is c.as_slice-rows.ensures c.requires.rows in
    no_run c.args.feed.now c.args.times.now c.args.days.now c.args.trip c.args.day c.args.from_row c.args.to_row c.args.board c.args.alight trip _ _ rows.of_trip rows.at_boarding rows.at_alighting
    (λ in_order running no_starts may_ride. false≢true (sym no_starts ∙ c.if-trip_record.true))

pub returns-then-not-may_ride : goal.returns-then-not-may_ride
returns-then-not-may_ride c =
    let trip = c.index-deref-trip.result in
    let rows = rows_at c.args.feed.now c.deref.result.now c.args.trip c.args.from_row c.args.to_row trip c.as_slice-rows.result.now no_row c.deref.ensures c.index-deref-trip.is c.as_slice-rows.ensures c.requires.rows in
    no_run c.args.feed.now c.args.times.now c.args.days.now c.args.trip c.args.day c.args.from_row c.args.to_row c.args.board c.args.alight trip _ _ rows.of_trip rows.at_boarding rows.at_alighting
    (λ in_order running no_starts may_ride. false≢true (sym c.if-not-may_ride.true ∙ c.may_ride.ensures.1 may_ride))

pub returns : goal.returns
returns c =
    let feed = c.args.feed.now in
    let trip = c.index-deref-trip.result in
    let rows = rows_at feed c.deref.result.now c.args.trip c.args.from_row c.args.to_row trip c.as_slice-rows.result.now no_row c.deref.ensures c.index-deref-trip.is c.as_slice-rows.ensures c.requires.rows in
    let back = to_z-of_z w32 c.args.day c.ranges.day in
    let leg : Leg = record { trip = c.args.trip; day = c.args.day; start = None; from_row = c.args.from_row; to_row = c.args.to_row; board = c.args.board; alight = c.args.alight } in
    run_of feed c.args.times.now c.args.days.now c.args.trip c.args.day c.args.from_row c.args.to_row c.args.board c.args.alight trip _ _ rows.of_trip rows.at_boarding rows.at_alighting c.timed_run.result
    (omega (arith, c.if-to_row-from_row.false))
    (c.requires.running trip rows.of_trip) c.if-trip_record.false
    (c.may_ride.ensures.0 c.if-not-may_ride.false)
    (λ departs arrives. c.timed_run.ensures.rides (ride_of leg departs arrives) (sym back) refl refl)
    c.timed_run.ensures.some
