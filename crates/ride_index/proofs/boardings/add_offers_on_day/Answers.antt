-- Where the trip runs on the day, and one may leave in time.
use Rattle.std.proofs.Common.{◌≡◌, ◌≤ℤ◌, ◌+ℤ◌, pos, Some, slice_get, get_or, length, w32, w64, to_z, of_z, rules, SFits, refl, sym, ◌∙◌, ap, subst, arith}
use Rattle.std.proofs.lemmas.Bool.{false≢true}
use Rattle.std.proofs.lemmas.Int.{to_z-of_z}
use Rattle.std.proofs.lemmas.Option.{slice_get-get_or, slice_get_read, slice_get_within}
use Rattle.flex_model.specs.declared.trip.Row.{Row}
use Rattle.flex_model.specs.declared.trip.Spot.TheVariants as spot
use Rattle.flex_model.specs.declared.trip.Timing.TheVariants as timing
use Rattle.flex_model.specs.declared.trip.Way.TheVariants.{No}
use Rattle.flex_model.specs.ServiceDay.{BeginsAt}
use Rattle.flex_model.proofs.Found.{slice_get_unique}
use Rattle.service_days.specs.Running.{IsRunning}
use Rattle.ride_index.specs.Legs.{first_second, last_second}
use Rattle.ride_index.specs.OfferedRuns.{GainsOffersOf}
use Rattle.ride_index.proofs.DayOffers.{IsOn, none_leaving, none_not_running, runs_then}
use Rattle.ride_index.proofs.OfferLists.{gains_none}
use Rattle.ride_index.proofs.boardings.add_offers_on_day.Goals as goal

pub returns-in_default : goal.returns-in_default
returns-in_default c =
    let w = c.args.wanted.now in
    let d = c.args.departure.now in
    let trips = w.feed.now.trips in
    let trip = c.index-deref-departure.result in
    let r = c.requires.departure in
    let at = slice_get_read trips (length trips) d.trip trip refl (slice_get_within trips d.trip r.1.0 r.1.1) (c.index-deref-departure.is ∙ ap (λ xs. get_or xs d.trip trip) c.deref.ensures) in
    let day : to_z w32 (of_z w32 c.args.day) ≡ c.args.day = to_z-of_z w32 c.args.day c.ranges.day in
    gains_none (IsOn w d.trip d.row c.args.day) c.args.into.now.items
    (none_not_running w d.trip d.row c.args.day trip at (λ runs. c.in_default.ensures.none (subst (IsRunning w.feed.now w.days.now trip) (sym day) runs)))

-- what indexing past the end would give
abbrev no_row : Row
no_row = record { sequence = 0; «spot» = spot.Stop 0; timing = timing.Times 0 0; pickup = No; drop_off = No }

pub bounds-deref-departure-2 : goal.bounds-deref-departure-2
bounds-deref-departure-2 c =
    let d = c.args.departure.now in
    let trips = c.args.wanted.now.feed.now.trips in
    let trip = c.index-deref-departure.result in
    let r = c.requires.departure in
    let at = slice_get_read trips (length trips) d.trip trip refl (slice_get_within trips d.trip r.1.0 r.1.1) (c.index-deref-departure.is ∙ ap (λ xs. get_or xs d.trip trip) c.deref.ensures) in
    let same : r.1.0 ≡ trip = slice_get_unique trips d.trip r.1.0 trip r.1.1 at in
    let within = slice_get_within trip.rows d.row r.0 (subst (λ t. slice_get t.rows d.row ≡ Some r.0) same r.1.2) in
    omega (arith, within, ap length c.deref-2.ensures)

pub returns-then-not-may_leave : goal.returns-then-not-may_leave
returns-then-not-may_leave c =
    let w = c.args.wanted.now in
    let d = c.args.departure.now in
    let trips = w.feed.now.trips in
    let trip = c.index-deref-departure.result in
    let r = c.requires.departure in
    let base = c.in-Some.base in
    let at = slice_get_read trips (length trips) d.trip trip refl (slice_get_within trips d.trip r.1.0 r.1.1) (c.index-deref-departure.is ∙ ap (λ xs. get_or xs d.trip trip) c.deref.ensures) in
    let same : r.1.0 ≡ trip = slice_get_unique trips d.trip r.1.0 trip r.1.1 at in
    let within = slice_get_within trip.rows d.row r.0 (subst (λ t. slice_get t.rows d.row ≡ Some r.0) same r.1.2) in
    let row = get_or c.deref-2.result.now d.row no_row in
    let at_row : slice_get trip.rows d.row ≡ Some row =
    slice_get-get_or trip.rows d.row no_row within ∙ ap (λ xs. Some (get_or xs d.row no_row)) (sym c.deref-2.ensures) in
    let day : to_z w32 (of_z w32 c.args.day) ≡ c.args.day = to_z-of_z w32 c.args.day c.ranges.day in
    let begins : BeginsAt w.days.now c.args.day base = subst (λ k. BeginsAt w.days.now k base) day c.in-Some.ensures.begins in
    let base_fits : SFits w64 base = search rules in
    let earliest_fits : SFits w64 w.earliest = search rules in
    let limit_fits : SFits w64 w.limit = search rules in
    let same_base = to_z-of_z w64 base base_fits in
    let same_earliest = to_z-of_z w64 w.earliest earliest_fits in
    let same_limit = to_z-of_z w64 w.limit limit_fits in
    gains_none (IsOn w d.trip d.row c.args.day) c.args.into.now.items
    (none_leaving w d.trip d.row c.args.day base trip row c.requires.wanted.feed at at_row begins
    (λ both. false≢true (sym c.if-not-may_leave.true ∙ c.may_leave.ensures.1 (
      subst (λ e. e ≤ℤ (to_z w64 (of_z w64 base) +ℤ pos (last_second row.timing))) (sym same_earliest) (subst (λ b. w.earliest ≤ℤ (b +ℤ pos (last_second row.timing))) (sym same_base) both.0),
      subst (λ l. (to_z w64 (of_z w64 base) +ℤ pos (first_second row.timing)) ≤ℤ l) (sym same_limit) (subst (λ b. (b +ℤ pos (first_second row.timing)) ≤ℤ w.limit) (sym same_base) both.1),
    ))))

pub add_offers_to_rows-requires-clause-runs : goal.add_offers_to_rows-requires-clause-runs
add_offers_to_rows-requires-clause-runs c =
    let w = c.args.wanted.now in
    let d = c.args.departure.now in
    let trips = w.feed.now.trips in
    let trip = c.index-deref-departure.result in
    let r = c.requires.departure in
    let at = slice_get_read trips (length trips) d.trip trip refl (slice_get_within trips d.trip r.1.0 r.1.1) (c.index-deref-departure.is ∙ ap (λ xs. get_or xs d.trip trip) c.deref.ensures) in
    runs_then w d.trip (to_z w32 (of_z w32 c.args.day)) trip at c.in-Some.ensures.running

pub returns : goal.returns
returns c =
    let w = c.args.wanted.now in
    let d = c.args.departure.now in
    subst (λ day. GainsOffersOf (IsOn w d.trip d.row day) c.args.into.now.items c.add_offers_to_rows.new.into.items) (to_z-of_z w32 c.args.day c.ranges.day) c.in_ok-add_offers_to_rows.ensures
