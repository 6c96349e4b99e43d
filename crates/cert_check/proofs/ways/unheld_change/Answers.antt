use mir.Syntax.{w64}
use mir.Val.{of_z, to_z}
use Rattle.std.proofs.Common.{rules, ◌≡◌, ◌+◌, ◌+ℤ◌, pos, ◌∙◌, ap, subst}
use Rattle.std.proofs.lemmas.Int.{to_z-of_z}
use Rattle.flex_model.specs.Journey.{counted}
use Rattle.cert_check.specs.Tasks.{IsUnheldFrom}
use Rattle.cert_check.proofs.WaysHeld.{boarded_next, some_change}
use Rattle.cert_check.proofs.ways.unheld_change.Goals as goal

pub returns : goal.returns
returns c =
    let task = c.args.task.now in
    let label = c.args.label.now in
    let seconds = c.in-Some.seconds in
    let d : to_z w64 (of_z w64 label.label.arrival) ≡ label.label.arrival = to_z-of_z w64 label.label.arrival (search rules) in
    let e : to_z w64 (of_z w64 c.later-earliest.result) ≡ c.later-earliest.result = to_z-of_z w64 c.later-earliest.result (search rules) in
    let earliest = e ∙ c.later-earliest.ensures ∙ ap (λ m. m +ℤ pos seconds) d in
    let walk = c.counted_walk-walk.ensures ∙ ap (counted task.query.now) c.walk_between.ensures in
    some_change task label c.args.place c.change.result c.change.ensures c.requires.round seconds c.in-Some.is c.in_ok-ride.ride
    (subst (λ m. IsUnheldFrom task (boarded_next task label c.args.place seconds) c.args.place m c.in_ok-ride.ride) earliest
    (subst (λ w. IsUnheldFrom task (record { deadline = label.label.deadline; walk = label.label.walk + w; round = label.round + 1 }) c.args.place
    (to_z w64 (of_z w64 c.later-earliest.result)) c.in_ok-ride.ride) walk
    c.in_ok-ride.ensures))
