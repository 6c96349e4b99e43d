use Rattle.booking_rules.proofs.LaterRides.{deadline_between}
use Rattle.booking_rules.proofs.laws.deadlines_rise_to_the_latest.Goals as goal

pub returns : goal.returns
returns c = deadline_between
