-- From the run of the leg to what is kept of it.
use Rattle.std.proofs.Common.{◌≡◌, ◌↔◌, ℤ, w32, w64, to_z, of_z, rules, SFits, sym, subst}
use Rattle.std.proofs.lemmas.Int.{to_z-of_z}
use Rattle.std.proofs.lemmas.Option.{slice_get_within}
use Rattle.flex_model.specs.Run.{IsInRun}
use Rattle.booking_rules.specs.Departures.{IsKept, IsOpen, IsOpenUntil}
use Rattle.ride_index.specs.Legs.{IsInTime, IsLegRide}
use Rattle.ride_index.proofs.LegRuns.{kept_reachable, none_of_leg, nth_in_run, permitted_in_run, run_in_range, wanted_in_run, wanted_open}
use Rattle.ride_index.proofs.OfferLists.{no_offers}
use Rattle.ride_index.proofs.legs.offer_of_leg.Goals as goal

pub returns-in_default : goal.returns-in_default
returns-in_default c =
    let w = c.args.wanted.now in
    let leg = c.args.leg.now in
    let fits : SFits w32 leg.day = search rules in
    no_offers (IsLegRide w leg) (none_of_leg w leg (to_z w32 (of_z w32 leg.day)) c.requires.leg (to_z-of_z w32 leg.day fits) c.in_default.ensures)

pub in_time-requires-clause-departs : goal.in_time-requires-clause-departs
in_time-requires-clause-departs c =
    let w = c.args.wanted.now in
    let leg = c.args.leg.now in
    let fits : SFits w32 leg.day = search rules in
    run_in_range w leg (to_z w32 (of_z w32 leg.day)) c.in-Some.run' c.requires.wanted c.requires.leg (to_z-of_z w32 leg.day fits) c.in-Some.ensures

pub returns-in_default-in_time : goal.returns-in_default-in_time
returns-in_default-in_time c =
    let w = c.args.wanted.now in
    let leg = c.args.leg.now in
    let fits : SFits w32 leg.day = search rules in
    let limit_fits : SFits w64 w.limit = search rules in
    no_offers (IsLegRide w leg) (λ ride deadline h.
    (c.in_default-in_time.ensures.rides ride.departs ride.arrives).1
    (subst (λ l. IsInTime c.in-Some.run' l ride.departs ride.arrives) (sym (to_z-of_z w64 w.limit limit_fits))
    (wanted_in_run w leg (to_z w32 (of_z w32 leg.day)) c.in-Some.run' c.requires.wanted c.requires.leg (to_z-of_z w32 leg.day fits) c.in-Some.ensures ride deadline h)))

pub narrow-requires-clause-rows : goal.narrow-requires-clause-rows
narrow-requires-clause-rows c =
    let leg = c.args.leg.now in
    let r = c.requires.rows in
    (r.trip, r.of_trip, slice_get_within r.trip.rows leg.from_row r.boarding r.at_boarding, slice_get_within r.trip.rows leg.to_row r.alighting r.at_alighting)

pub narrow-requires-clause-day : goal.narrow-requires-clause-day
narrow-requires-clause-day c =
    let w = c.args.wanted.now in
    let leg = c.args.leg.now in
    let fits : SFits w32 leg.day = search rules in
    let p = permitted_in_run w leg (to_z w32 (of_z w32 leg.day)) c.in-Some.run' c.requires.wanted c.requires.leg (to_z-of_z w32 leg.day fits) c.in-Some.ensures _ _ (nth_in_run c.in-Some.run' 0 c.in-Some.ensures.some) in
    p.on_travel_day

pub returns-in_default-narrow : goal.returns-in_default-narrow
returns-in_default-narrow c =
    let w = c.args.wanted.now in
    let leg = c.args.leg.now in
    let cut = c.in-Some-in_time.run' in
    let fits : SFits w32 leg.day = search rules in
    let limit_fits : SFits w64 w.limit = search rules in
    let asked_fits : SFits w64 w.asked = search rules in
    let earliest_fits : SFits w64 w.earliest = search rules in
    let rides : (departs arrives : ℤ) → IsInRun cut departs arrives ↔ IsInTime c.in-Some.run' w.limit departs arrives =
    subst (λ l. (departs arrives : ℤ) → IsInRun cut departs arrives ↔ IsInTime c.in-Some.run' l departs arrives) (to_z-of_z w64 w.limit limit_fits) c.in-Some-in_time.ensures.rides in
    no_offers (IsLegRide w leg) (λ ride deadline h.
    let o = wanted_open w leg (to_z w32 (of_z w32 leg.day)) c.in-Some.run' c.requires.wanted c.requires.leg (to_z-of_z w32 leg.day fits) c.in-Some.ensures cut rides ride deadline h in
    c.in_default-narrow.ensures.none ride.departs ride.arrives
    (subst (λ a. IsOpen w.feed.now w.days.now leg cut a (to_z w64 (of_z w64 w.earliest)) ride.departs ride.arrives) (sym (to_z-of_z w64 w.asked asked_fits))
    (subst (λ e. IsOpen w.feed.now w.days.now leg cut w.asked e ride.departs ride.arrives) (sym (to_z-of_z w64 w.earliest earliest_fits)) o.is_open)))

pub offer_of_kept-requires-clause-kept : goal.offer_of_kept-requires-clause-kept
offer_of_kept-requires-clause-kept c =
    let w = c.args.wanted.now in
    let leg = c.args.leg.now in
    let cut = c.in-Some-in_time.run' in
    let kept = c.in-Some-narrow.kept in
    let fits : SFits w32 leg.day = search rules in
    let limit_fits : SFits w64 w.limit = search rules in
    let asked_fits : SFits w64 w.asked = search rules in
    let earliest_fits : SFits w64 w.earliest = search rules in
    let asked : to_z w64 (of_z w64 w.asked) ≡ w.asked = to_z-of_z w64 w.asked asked_fits in
    let earliest : to_z w64 (of_z w64 w.earliest) ≡ w.earliest = to_z-of_z w64 w.earliest earliest_fits in
    let rides : (departs arrives : ℤ) → IsInRun cut departs arrives ↔ IsInTime c.in-Some.run' w.limit departs arrives =
    subst (λ l. (departs arrives : ℤ) → IsInRun cut departs arrives ↔ IsInTime c.in-Some.run' l departs arrives) (to_z-of_z w64 w.limit limit_fits) c.in-Some-in_time.ensures.rides in
    let n = c.in-Some-narrow.ensures in
    record {
      some = n.some;
      departs = n.departs;
      single = n.single;
      each = λ departs arrives h.
          let k = (n.kept departs arrives).0 h in
          kept_reachable w leg (to_z w32 (of_z w32 leg.day)) c.in-Some.run' c.requires.wanted c.requires.leg (to_z-of_z w32 leg.day fits) c.in-Some.ensures cut rides departs arrives
          (subst (λ a. IsKept w.feed.now w.days.now leg cut a w.earliest departs arrives) asked
          (subst (λ e. IsKept w.feed.now w.days.now leg cut (to_z w64 (of_z w64 w.asked)) e departs arrives) earliest k));
      covers = λ ride deadline h.
          let o = wanted_open w leg (to_z w32 (of_z w32 leg.day)) c.in-Some.run' c.requires.wanted c.requires.leg (to_z-of_z w32 leg.day fits) c.in-Some.ensures cut rides ride deadline h in
          n.covered ride.departs ride.arrives deadline
          (subst (λ a. IsOpenUntil w.feed.now w.days.now leg cut a (to_z w64 (of_z w64 w.earliest)) ride.departs ride.arrives deadline) (sym asked)
          (subst (λ e. IsOpenUntil w.feed.now w.days.now leg cut w.asked e ride.departs ride.arrives deadline) (sym earliest) o));
    }
