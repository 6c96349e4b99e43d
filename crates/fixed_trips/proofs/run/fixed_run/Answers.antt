-- The ride is that of the trip's two records.
use Rattle.std.proofs.Common.{◌≡◌, ◌↔◌, ◌^◌, ◌<◌, get_or, true, false, w32, to_z, of_z, sym, ◌∙◌, subst, arith}
use Rattle.std.proofs.lemmas.Int.{to_z-of_z}
use Rattle.flex_model.specs.declared.trip.Row.{Row}
use Rattle.flex_model.specs.declared.trip.Spot.TheVariants as spot
use Rattle.flex_model.specs.declared.trip.Timing.TheVariants as timing
use Rattle.flex_model.specs.declared.trip.Way.TheVariants.{No}
use Rattle.std.specs.Prelude.{unsigned_abs}
use Rattle.flex_model.specs.Run.{IsInRuns, Leg}
use Rattle.fixed_trips.specs.Timed.{HasTiming, MayRun}
use Rattle.fixed_trips.proofs.Legs.{has_ride, names_stop, no_run, row_at, run_of, shift_fits}
use Rattle.fixed_trips.proofs.run.fixed_run.Goals as goal
use Rattle.fixed_trips.proofs.run.fixed_run.Goals.{then-to_row-from_row-via-then-to_row-from_row, then-to_row-from_row-via-else-to_row-from_row+then-not-may_run, then-to_row-from_row-via-else-to_row-from_row+else-not-may_run+then-not-may_ride}

-- what indexing past the end would give
abbrev no_row : Row
no_row = record { sequence = 0; «spot» = spot.Stop 0; timing = timing.Times 0 0; pickup = No; drop_off = No }

pub may_ride-requires-clause-boards : goal.may_ride-requires-clause-boards
may_ride-requires-clause-boards c =
    names_stop c.args.feed.now c.args.trip c.args.from_row _ _ c.requires.feed
    (row_at c.args.feed.now c.deref.result.now c.args.trip c.args.from_row c.index-deref-trip.result c.as_slice-rows.result.now no_row c.deref.ensures c.index-deref-trip.is c.as_slice-rows.ensures c.requires.from_row)

pub may_ride-requires-clause-alights : goal.may_ride-requires-clause-alights
may_ride-requires-clause-alights c =
    names_stop c.args.feed.now c.args.trip c.args.to_row _ _ c.requires.feed
    (row_at c.args.feed.now c.deref.result.now c.args.trip c.args.to_row c.index-deref-trip.result c.as_slice-rows.result.now no_row c.deref.ensures c.index-deref-trip.is c.as_slice-rows.ensures c.requires.to_row)

pub timed_run-requires-clause-boards : goal.timed_run-requires-clause-boards
timed_run-requires-clause-boards c =
    let from = row_at c.args.feed.now c.deref.result.now c.args.trip c.args.from_row c.index-deref-trip.result c.as_slice-rows.result.now no_row c.deref.ensures c.index-deref-trip.is c.as_slice-rows.ensures c.requires.from_row in
    from.timed

pub timed_run-requires-clause-alights : goal.timed_run-requires-clause-alights
timed_run-requires-clause-alights c =
    let to = row_at c.args.feed.now c.deref.result.now c.args.trip c.args.to_row c.index-deref-trip.result c.as_slice-rows.result.now no_row c.deref.ensures c.index-deref-trip.is c.as_slice-rows.ensures c.requires.to_row in
    to.timed

pub returns-then-to_row-from_row-clause-rides : goal.returns-then-to_row-from_row-clause-rides
returns-then-to_row-from_row-clause-rides c times =
    let feed = c.args.feed.now in
    let days = c.args.days.now in
    let trip = c.index-deref-trip.result in
    let from = row_at feed c.deref.result.now c.args.trip c.args.from_row trip c.as_slice-rows.result.now no_row c.deref.ensures c.index-deref-trip.is c.as_slice-rows.ensures c.requires.from_row in
    let to = row_at feed c.deref.result.now c.args.trip c.args.to_row trip c.as_slice-rows.result.now no_row c.deref.ensures c.index-deref-trip.is c.as_slice-rows.ensures c.requires.to_row in
    let on : c.args.day ≡ to_z w32 (of_z w32 c.args.day) = sym (to_z-of_z w32 c.args.day c.ranges.day) in
    let leg : Leg = record { trip = c.args.trip; day = c.args.day; start = c.args.start; from_row = c.args.from_row; to_row = c.args.to_row; board = c.args.board; alight = c.args.alight } in
    no_run feed times days leg trip _ _ from.of_trip from.at_row to.at_row
    (λ departs arrives p. elim c.then-to_row-from_row.branch [
      | then-to_row-from_row-via-then-to_row-from_row w ↦ (let order : c.args.from_row < c.args.to_row = p.in_order in omega (arith, w.if-to_row-from_row.true))
      | then-to_row-from_row-via-else-to_row-from_row+then-not-may_run w ↦ (
          let runs : w.may_run.result ≡ true = w.may_run.ensures.1 (subst (λ day. MayRun feed days trip day c.args.start) on p.may_run) in
          let no : w.may_run.result ≡ false = w.if-not-may_run.true in
          let e : false ≡ true = sym no ∙ runs in cc)
      | then-to_row-from_row-via-else-to_row-from_row+else-not-may_run+then-not-may_ride w ↦ (
          let may : w.may_ride.result ≡ true = (w.may_ride.ensures feed times).1 p.may_ride in
          let no : w.may_ride.result ≡ false = w.if-not-may_ride.true in
          let e : false ≡ true = sym no ∙ may in cc)
    ])

pub returns-clause-rides : goal.returns-clause-rides
returns-clause-rides c times =
    let feed = c.args.feed.now in
    let days = c.args.days.now in
    let trip = c.index-deref-trip.result in
    let from = row_at feed c.deref.result.now c.args.trip c.args.from_row trip c.as_slice-rows.result.now no_row c.deref.ensures c.index-deref-trip.is c.as_slice-rows.ensures c.requires.from_row in
    let to = row_at feed c.deref.result.now c.args.trip c.args.to_row trip c.as_slice-rows.result.now no_row c.deref.ensures c.index-deref-trip.is c.as_slice-rows.ensures c.requires.to_row in
    let back : to_z w32 (of_z w32 c.args.day) ≡ c.args.day = to_z-of_z w32 c.args.day c.ranges.day in
    let leg : Leg = record { trip = c.args.trip; day = c.args.day; start = c.args.start; from_row = c.args.from_row; to_row = c.args.to_row; board = c.args.board; alight = c.args.alight } in
    let order : c.args.from_row < c.args.to_row = omega (arith, c.if-to_row-from_row.false) in
    run_of feed times days leg trip _ _ from.of_trip from.at_row to.at_row c.timed_run.result
    order
    (subst (λ day. MayRun feed days trip day c.args.start) back (c.may_run.ensures.0 c.if-not-may_run.false))
    ((c.may_ride.ensures feed times).0 c.if-not-may_ride.false)
    (λ departs arrives. subst (λ by. IsInRuns c.timed_run.result departs arrives ↔ HasTiming times days leg by (get_or c.as_slice-rows.result.now c.args.from_row no_row).timing (get_or c.as_slice-rows.result.now c.args.to_row no_row).timing departs arrives)
    (shift_fits c.shift-by.result c.shift-by.ensures.near ∙ c.shift-by.ensures.value) (c.timed_run.ensures.rides times leg departs arrives (sym back)))
    (has_ride c.timed_run.result c.timed_run.ensures.single)

pub timed_run-requires-clause-by : goal.timed_run-requires-clause-by
timed_run-requires-clause-by c = subst (λ z. unsigned_abs z < 2 ^ 32) (sym (shift_fits c.shift-by.result c.shift-by.ensures.near)) c.shift-by.ensures.near
