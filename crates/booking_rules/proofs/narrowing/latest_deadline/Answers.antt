-- Where a departure's ride can be booked, that of the last one can be.
use Rattle.std.proofs.Common.{◌≡◌, Option, Some, None, IfNone, w64, to_z, of_z, sym, subst}
use Rattle.std.proofs.lemmas.Int.{to_z-of_z}
use Rattle.flex_model.specs.declared.moment.Deadline.{Deadline}
use Rattle.flex_model.specs.Booking.{IsBookable}
use Rattle.booking_rules.specs.Narrowing.{last_number, nth_ride}
use Rattle.booking_rules.proofs.OpenDepartures.{last_bookable}
use Rattle.booking_rules.proofs.narrowing.latest_deadline.Goals as goal

none_by : {P Q : Type 0} (deadline : Option Deadline) → IfNone deadline P → (P → Q) → IfNone deadline Q
none_by None p f = f p
none_by (Some deadline) p f = tt

pub returns-clause-none : goal.returns-clause-none
returns-clause-none c =
    let feed = c.args.feed.now in
    let days = c.args.days.now in
    let ride = c.args.ride.now in
    let run = c.args.run.now in
    let now : to_z w64 (of_z w64 c.args.now) ≡ c.args.now = to_z-of_z w64 c.args.now c.ranges.now in
    none_by c.bookable.result c.bookable.ensures.refused (λ refused k lt is_open.
    refused (subst (λ r. IsBookable feed days r (to_z w64 (of_z w64 c.args.now))) (sym c.nth_ride.ensures)
    (subst (IsBookable feed days (nth_ride ride run (last_number run))) (sym now) (last_bookable feed days ride run c.args.now k lt is_open.bookable))))
