use Rattle.booking_rules.proofs.LaterRides.{bookable_later}
use Rattle.booking_rules.proofs.laws.later_rides_can_be_booked.Goals as goal

pub returns : goal.returns
returns c = bookable_later
