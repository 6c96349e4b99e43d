-- The tests of one ride, in their order.
use Rattle.std.proofs.Common.{◌≡◌, ◌+◌, ◌+ℤ◌, ◌≤ℤ◌, pos, Some, get_or, slice_get, refl, sym, ◌∙◌, subst, to_z, of_z, w64, arith}
use Rattle.std.proofs.lemmas.Bool.{false≢true}
use Rattle.std.proofs.lemmas.Int.{ints}
use Rattle.std.proofs.lemmas.Option.{none-some, same_Some, slice_get-get_or}
use Rattle.flex_model.specs.Booking.{IsBookable}
use Rattle.flex_model.specs.Flaw.{IsFirstJourneyFlaw}
use Rattle.flex_model.specs.Ride.{IsPermittedRide}
use Rattle.booking_rules.proofs.PermittedDepartures.{departs_in_range}
use Rattle.journey_judge.proofs.JourneyTests.{booking_flaw, in_time, no_ride, not_in_time, time_flaw, walk_of_way, way_flaw}
use Rattle.journey_judge.proofs.ShortWalks.{way_short}
use Rattle.journey_judge.proofs.journey.judge_at.Goals as goal

pub bookable-requires-clause-departs : goal.bookable-requires-clause-departs
bookable-requires-clause-departs c =
    departs_in_range c.args.feed.now c.args.times.now c.args.days.now (get_or c.args.rides.now c.args.k no_ride) (c.in_default.ensures.ok.0 refl) c.requires.feed c.requires.days

pub returns-in_default-bookable : goal.returns-in_default-bookable
returns-in_default-bookable c =
    let feed = c.args.feed.now in
    let query = c.args.query.now in
    let rides = c.args.rides.now in
    let ride = get_or rides c.args.k no_ride in
    let at : slice_get rides c.args.k ≡ Some ride = slice_get-get_or rides c.args.k no_ride c.requires.within in
    let permitted : IsPermittedRide feed c.args.times.now c.args.days.now ride = c.in_default.ensures.ok.0 refl in
    let now : to_z w64 (of_z w64 query.now) ≡ query.now = omega (arith, ints) in
    booking_flaw feed c.args.times.now c.args.days.now query rides c.args.k ride at c.requires.before (c.args.k + 1) refl permitted
    (subst (λ m. IsBookable feed c.args.days.now ride m → ⊥) now c.in_default-bookable.ensures.refused)

pub returns-in_default-way : goal.returns-in_default-way
returns-in_default-way c =
    let feed = c.args.feed.now in
    let query = c.args.query.now in
    let rides = c.args.rides.now in
    let ride = get_or rides c.args.k no_ride in
    let at : slice_get rides c.args.k ≡ Some ride = slice_get-get_or rides c.args.k no_ride c.requires.within in
    let permitted : IsPermittedRide feed c.args.times.now c.args.days.now ride = c.in_default.ensures.ok.0 refl in
    let now : to_z w64 (of_z w64 query.now) ≡ query.now = omega (arith, ints) in
    let bookable = subst (λ m. IsBookable feed c.args.days.now ride m) now c.in-Some.ensures.booked.0 in
    subst (IsFirstJourneyFlaw feed c.args.times.now c.args.days.now query rides) (sym c.no_way.ensures)
    (way_flaw feed c.args.times.now c.args.days.now query rides c.args.k ride at c.requires.before (c.args.k + 1) refl permitted bookable
    (λ way. none-some way.0 (sym c.in_default-way.is ∙ (c.way.ensures ride way.0 at).0 way.1)))

pub returns-then-not-is_by : goal.returns-then-not-is_by
returns-then-not-is_by c =
    let feed = c.args.feed.now in
    let query = c.args.query.now in
    let rides = c.args.rides.now in
    let ride = get_or rides c.args.k no_ride in
    let at : slice_get rides c.args.k ≡ Some ride = slice_get-get_or rides c.args.k no_ride c.requires.within in
    let permitted : IsPermittedRide feed c.args.times.now c.args.days.now ride = c.in_default.ensures.ok.0 refl in
    let now : to_z w64 (of_z w64 query.now) ≡ query.now = omega (arith, ints) in
    let bookable = subst (λ m. IsBookable feed c.args.days.now ride m) now c.in-Some.ensures.booked.0 in
    let way = (c.way.ensures ride c.in-Some-way.seconds at).1 c.in-Some-way.is in
    time_flaw feed c.args.times.now c.args.days.now query rides c.args.k ride at c.requires.before (c.args.k + 1) refl permitted bookable (c.in-Some-way.seconds, way)
    (not_in_time feed c.args.times.now query rides c.args.k ride c.ready_at.result c.in-Some-way.seconds c.ready_at.ensures
    (λ other is. sym (same_Some c.in-Some-way.seconds other (sym c.in-Some-way.is ∙ (c.way.ensures ride other at).0 is)))
    (λ by. false≢true (sym c.if-not-is_by.true ∙ c.is_by.ensures.1 (omega (arith, ints)))))

pub returns : goal.returns
returns c =
    let feed = c.args.feed.now in
    let query = c.args.query.now in
    let rides = c.args.rides.now in
    let ride = get_or rides c.args.k no_ride in
    let at : slice_get rides c.args.k ≡ Some ride = slice_get-get_or rides c.args.k no_ride c.requires.within in
    let now : to_z w64 (of_z w64 query.now) ≡ query.now = omega (arith, ints) in
    let way = (c.way.ensures ride c.in-Some-way.seconds at).1 c.in-Some-way.is in
    let by : (c.ready_at.result +ℤ pos c.in-Some-way.seconds) ≤ℤ ride.departs = let e = c.is_by.ensures.0 c.if-not-is_by.false in omega (arith, ints) in
    let walks =
    walk_of_way feed c.args.times.now query rides c.args.k ride c.ready_at.result c.in-Some-way.seconds c.walk_of_way.result c.ready_at.ensures way
    (λ other is. sym (same_Some c.in-Some-way.seconds other (sym c.in-Some-way.is ∙ (c.way.ensures ride other at).0 is))) by (c.walk_of_way.ensures ride at) in
    record {
      ride = ride;
      is_ride = at;
      passes = record {
        permitted = c.in_default.ensures.ok.0 refl;
        bookable = subst (λ m. IsBookable feed c.args.days.now ride m) now c.in-Some.ensures.booked.0;
        in_time = in_time feed c.args.times.now query rides c.args.k ride c.ready_at.result c.in-Some-way.seconds c.ready_at.ensures way by;
      };
      booked = c.in-Some.ensures.booked.1;
      walks = walks;
      short = way_short feed c.args.times.now query rides c.args.k ride c.walk_of_way.result c.requires.feed c.requires.times ((walks c.walk_of_way.result).1 refl);
    }
