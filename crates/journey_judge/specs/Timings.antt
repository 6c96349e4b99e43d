-- How the timing of the record at which a ride is boarded bears on its arrival. This project's own.
use Rattle.flex_model.specs.declared.ride.Ride.{Ride}
use Rattle.flex_model.specs.declared.times.Times.{Times}
use Rattle.flex_model.specs.declared.trip.Timing.{Timing}
use Rattle.flex_model.specs.declared.trip.Timing.TheVariants as timing
use Rattle.flex_model.specs.Ride.{FitsDirectTime}

-- a ride that is boarded in a window takes at least the direct time between its places
abbrev pub LeavesTime : Times → Ride → Timing → Type 0
LeavesTime times ride (timing.Times arrives departs) = Unit {0}
LeavesTime times ride (timing.Window start end) = FitsDirectTime times ride
