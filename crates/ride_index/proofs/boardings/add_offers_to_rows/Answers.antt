-- Record by record.
use Rattle.std.proofs.Common.{◌≡◌, Some, slice_get, get_or, length, w32, to_z, of_z, refl, sym, ◌∙◌, ap, subst, arith}
use Rattle.std.proofs.lemmas.Int.{to_z-of_z}
use Rattle.std.proofs.lemmas.Option.{slice_get-get_or, slice_get_read, slice_get_within}
use Rattle.flex_model.specs.declared.trip.Row.{Row}
use Rattle.flex_model.specs.declared.trip.Spot.TheVariants as spot
use Rattle.flex_model.specs.declared.trip.Timing.TheVariants as timing
use Rattle.flex_model.specs.declared.trip.Way.TheVariants.{No}
use Rattle.flex_model.proofs.Found.{slice_get_unique}
use Rattle.ride_index.specs.Legs.{BoardsOn, IsWindowRide}
use Rattle.ride_index.specs.OfferedRuns.{GainsOffersOf}
use Rattle.ride_index.proofs.BoardingOffers.{IsToEarly, all_rows, next_row, none_earlier}
use Rattle.ride_index.proofs.OfferLists.{gains_none}
use Rattle.ride_index.proofs.boardings.add_offers_to_rows.Goals as goal

-- what indexing past the end would give
abbrev no_row : Row
no_row = record { sequence = 0; «spot» = spot.Stop 0; timing = timing.Times 0 0; pickup = No; drop_off = No }

pub add_offers_between-requires-clause-boarding : goal.add_offers_between-requires-clause-boarding
add_offers_between-requires-clause-boarding c =
    let d = c.args.departure.now in
    let trips = c.args.wanted.now.feed.now.trips in
    let trip = c.index-deref-departure.result in
    let r = c.requires.departure in
    let at = slice_get_read trips (length trips) d.trip trip refl (slice_get_within trips d.trip r.1.0 r.1.1) (c.index-deref-departure.is ∙ ap (λ xs. get_or xs d.trip trip) c.deref.ensures) in
    let same : r.1.0 ≡ trip = slice_get_unique trips d.trip r.1.0 trip r.1.1 at in
    let within = slice_get_within trip.rows d.row r.0 (subst (λ t. slice_get t.rows d.row ≡ Some r.0) same r.1.2) in
    (trip, at, slice_get-get_or trip.rows d.row no_row within ∙ ap (λ xs. Some (get_or xs d.row no_row)) (sym c.as_slice-rows.ensures))

pub add_offers_between-requires-clause-alighting : goal.add_offers_between-requires-clause-alighting
add_offers_between-requires-clause-alighting c =
    let d = c.args.departure.now in
    let trips = c.args.wanted.now.feed.now.trips in
    let trip = c.index-deref-departure.result in
    let r = c.requires.departure in
    let n = c.loop-to_row.to_row in
    let at = slice_get_read trips (length trips) d.trip trip refl (slice_get_within trips d.trip r.1.0 r.1.1) (c.index-deref-departure.is ∙ ap (λ xs. get_or xs d.trip trip) c.deref.ensures) in
    let size = ap length c.as_slice-rows.ensures in
    (trip, at, slice_get-get_or trip.rows n no_row (omega (arith, size, c.loop-to_row-test.true)) ∙ ap (λ xs. Some (get_or xs n no_row)) (sym c.as_slice-rows.ensures))

pub loop-to_row-init : goal.loop-to_row-init
loop-to_row-init c =
    let w = c.args.wanted.now in
    let d = c.args.departure.now in
    gains_none (IsToEarly w d.trip d.row (to_z w32 (of_z w32 c.args.day)) _) c.args.into.now.items (none_earlier w d.trip d.row (to_z w32 (of_z w32 c.args.day)) _ (omega arith))

pub loop-to_row-preserved : goal.loop-to_row-preserved
loop-to_row-preserved c =
    let d = c.args.departure.now in
    next_row c.args.wanted.now d.trip d.row (to_z w32 (of_z w32 c.args.day)) c.loop-to_row.to_row c.args.into.now.items c.loop-to_row.into.items c.add_offers_between.new.into.items c.loop-to_row.invariant c.in_ok-add_offers_between.ensures

pub returns : goal.returns
returns c =
    let w = c.args.wanted.now in
    let d = c.args.departure.now in
    let trips = w.feed.now.trips in
    let trip = c.index-deref-departure.result in
    let r = c.requires.departure in
    let at = slice_get_read trips (length trips) d.trip trip refl (slice_get_within trips d.trip r.1.0 r.1.1) (c.index-deref-departure.is ∙ ap (λ xs. get_or xs d.trip trip) c.deref.ensures) in
    let size = ap length c.as_slice-rows.ensures in
    subst (λ day. GainsOffersOf (λ ride deadline. IsWindowRide w ride deadline × BoardsOn d.trip d.row day ride) c.args.into.now.items c.loop-to_row.into.items) (to_z-of_z w32 c.args.day c.ranges.day)
    (all_rows w d.trip d.row (to_z w32 (of_z w32 c.args.day)) trip c.loop-to_row.to_row c.args.into.now.items c.loop-to_row.into.items at (omega (arith, size, c.loop-to_row-test.false)) c.loop-to_row.invariant)
