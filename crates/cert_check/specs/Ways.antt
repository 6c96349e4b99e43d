-- Rides from the origin and after a label, by where they are boarded. This project's own.
use Rattle.std.specs.Prelude.{◌≡◌, List, Option, Some, None, All}
use Rattle.cert_check.specs.declared.labels.RoundLabel.{RoundLabel}
use Rattle.cert_check.specs.declared.task.Task.{Task}
use Rattle.flex_model.specs.declared.change.ChangeRow.{ChangeRow}
use Rattle.flex_model.specs.declared.place.Place.{Place}
use Rattle.flex_model.specs.declared.place.Place.TheVariants.{Stop}
use Rattle.flex_model.specs.declared.ride.Ride.{Ride}
use Rattle.flex_model.specs.declared.times.Span.{Span}
use Rattle.cert_check.specs.Reasons as Reasons

abbrev pub IsFirstHeld : Task → Ride → Type 0
IsFirstHeld task ride =
    Reasons.IsFirstHeld task.feed.now task.times.now task.days.now task.query.now task.part.now ride

abbrev pub IsFirstUnheld : Task → Ride → Type 0
IsFirstUnheld task ride =
    Reasons.IsFirstUnheld task.feed.now task.times.now task.days.now task.query.now task.part.now
    ride

abbrev pub IsNextHeld : Task → RoundLabel → Ride → Type 0
IsNextHeld task label ride =
    Reasons.IsNextHeld task.feed.now task.times.now task.days.now task.query.now task.part.now
    label ride

abbrev pub IsNextUnheld : Task → RoundLabel → Ride → Type 0
IsNextUnheld task label ride =
    Reasons.IsNextUnheld task.feed.now task.times.now task.days.now task.query.now task.part.now
    label ride

-- each ride that is boarded at the place is held, if it is one on the way from the origin
abbrev pub AreFirstHeld : Task → Place → Type 0
AreFirstHeld task place = (ride : Ride) → ride.board ≡ place → IsFirstHeld task ride

-- the same of the rides after the label
abbrev pub AreNextHeld : Task → RoundLabel → Place → Type 0
AreNextHeld task label place = (ride : Ride) → ride.board ≡ place → IsNextHeld task label ride

-- a ride from the origin that isn't held, or none where each that is boarded at the place is held
abbrev pub IsUnheldAccess : Task → Place → Option Ride → Type 0
IsUnheldAccess task place None = AreFirstHeld task place
IsUnheldAccess task place (Some ride) = IsFirstUnheld task ride

-- the same of those that are boarded where one of the walks ends
abbrev pub IsUnheldWalk : Task → List Span → Option Ride → Type 0
IsUnheldWalk task walks None = All (λ span. AreFirstHeld task span.to) walks
IsUnheldWalk task walks (Some ride) = IsFirstUnheld task ride

-- the same of those that are boarded anywhere
abbrev pub IsUnheldFirst : Task → Option Ride → Type 0
IsUnheldFirst task None = (ride : Ride) → IsFirstHeld task ride
IsUnheldFirst task (Some ride) = IsFirstUnheld task ride

-- a ride after the label that isn't held, or none where each that is boarded at the place is held
abbrev pub IsUnheldChange : Task → RoundLabel → Place → Option Ride → Type 0
IsUnheldChange task label place None = AreNextHeld task label place
IsUnheldChange task label place (Some ride) = IsNextUnheld task label ride

-- the same of those that are boarded where one of the rules leads
abbrev pub IsUnheldRule : Task → RoundLabel → List ChangeRow → Option Ride → Type 0
IsUnheldRule task label rows None = All (λ row. AreNextHeld task label (Stop row.to)) rows
IsUnheldRule task label rows (Some ride) = IsNextUnheld task label ride

-- the same of those that are boarded anywhere
abbrev pub IsUnheldNext : Task → RoundLabel → Option Ride → Type 0
IsUnheldNext task label None = (ride : Ride) → IsNextHeld task label ride
IsUnheldNext task label (Some ride) = IsNextUnheld task label ride
