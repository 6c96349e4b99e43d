-- The moments of an offer from a boarding can be held by the code's numbers.
use Rattle.std.proofs.Common.{pos, ◌*◌, ◌+ℤ◌, ◌≤ℤ◌, subst, arith}
use Rattle.std.proofs.lemmas.Int.{ints}
use Rattle.flex_model.specs.Booking.{IsDeadline}
use Rattle.flex_model.proofs.Bounds.{deadlines_in_time}
use Rattle.flex_model.proofs.Certificates.{ride_forwards}
use Rattle.round_engine.specs.declared.boarding.Boarding.{Boarding}
use Rattle.round_engine.specs.declared.offer.Offer.{Offer}
use Rattle.round_engine.specs.declared.task.Task.{Task}
use Rattle.round_engine.specs.Attained.{IsOfferFrom, IsSoundTask}
use Rattle.round_engine.specs.Offers.{IsModest}

pub modest_offer : (task : Task) → IsSoundTask task → (boarding : Boarding) (offer : Offer) → IsOfferFrom task boarding offer → IsModest offer
modest_offer task sound boarding offer from =
    let query = task.query.now in
    let way = from.on_the_way in
    let depart = sound.query.depart.high in
    let horizon = sound.query.horizon in
    let arrives : offer.ride.arrives ≤ℤ pos 30000000000 = (let a : offer.ride.arrives ≤ℤ (query.depart +ℤ pos (60 * query.horizon)) = way.arrives in omega (arith, ints)) in
    let forwards : offer.ride.departs ≤ℤ offer.ride.arrives = ride_forwards task.feed.now task.times.now task.days.now offer.ride sound.feed way.usable.permitted in
    let departs : offer.ride.departs ≤ℤ pos 30000000000 = omega (arith, ints) in
    record {
      departs = departs;
      arrives = arrives;
      booked = λ moment e.
          let late = (deadlines_in_time task.feed.now task.days.now offer.ride query.now moment way.usable.bookable
          (subst (IsDeadline task.feed.now task.days.now offer.ride) e way.booked)).1 in
          omega (arith, ints);
    }
