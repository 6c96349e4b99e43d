-- A permitted ride is wanted where it can be booked and alights at a stop or at the destination.
use Rattle.std.proofs.Common.{◌≡◌, ◌⊎◌, sym, ◌∙◌, subst}
use Rattle.std.proofs.lemmas.Bool.{false≢true}
use Rattle.flex_model.specs.Booking.{IsBookable}
use Rattle.flex_model.specs.Place.{IsStop}
use Rattle.ride_index.specs.OfferedRuns.{IsWantedRide}
use Rattle.ride_index.proofs.OfferLists.{no_offers}
use Rattle.ride_index.proofs.SingleOffers.{single_offer}
use Rattle.ride_index.proofs.offers.offer_of_ride.Goals as goal

pub returns-in_default : goal.returns-in_default
returns-in_default c =
    let w = c.args.wanted.now in
    no_offers (λ x deadline. IsWantedRide w x deadline × (x ≡ c.args.ride.now))
    (λ x deadline h. c.in_default.ensures.refused (subst (λ y. IsBookable w.feed.now w.days.now y w.asked) h.1 h.0.bookable))

pub returns-then-not-may_alight : goal.returns-then-not-may_alight
returns-then-not-may_alight c =
    let w = c.args.wanted.now in
    no_offers (λ x deadline. IsWantedRide w x deadline × (x ≡ c.args.ride.now))
    (λ x deadline h. false≢true (sym c.if-not-may_alight.true ∙ c.may_alight.ensures.1 (subst (λ y. IsStop y.alight ⊎ (y.alight ≡ w.destination)) h.1 h.0.alights)))

pub returns : goal.returns
returns c =
    let w = c.args.wanted.now in
    let booked = c.in-Some.ensures.booked in
    let r = c.requires.reachable in
    single_offer w c.args.ride.now c.in-Some.deadline (record {
      permitted = r.permitted;
      bookable = booked.0;
      booked = booked.1;
      boards = r.boards;
      alights = c.may_alight.ensures.0 c.if-not-may_alight.false;
      leaves = r.leaves;
      arrives = r.arrives;
    })
