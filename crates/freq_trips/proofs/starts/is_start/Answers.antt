use Rattle.flex_model.specs.Ride.{IsStart}
use Rattle.freq_trips.proofs.NextStarts.{is_next}
use Rattle.freq_trips.proofs.starts.is_start.Goals as goal

pub returns : goal.returns
returns c = is_next (IsStart c.args.trip.now) c.args.seconds c.next_start.result c.eq.result c.eq.ensures c.next_start.ensures
