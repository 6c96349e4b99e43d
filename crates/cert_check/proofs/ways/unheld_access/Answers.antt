use mir.Syntax.{w64}
use mir.Val.{of_z, to_z}
use Rattle.std.proofs.Common.{rules, ◌≡◌, ◌+ℤ◌, None, pos, refl, ◌∙◌, ap, subst}
use Rattle.std.proofs.lemmas.Int.{to_z-of_z}
use Rattle.flex_model.specs.declared.moment.Deadline.TheVariants.{Never}
use Rattle.cert_check.specs.Tasks.{IsUnheldFrom}
use Rattle.cert_check.proofs.WaysHeld.{boarded_first, no_access, some_access}
use Rattle.cert_check.proofs.ways.unheld_access.Goals as goal

pub returns-in_default : goal.returns-in_default
returns-in_default c = no_access c.args.task.now c.args.place None c.in_default.ensures refl

pub returns : goal.returns
returns c =
    let task = c.args.task.now in
    let seconds = c.in-Some.seconds in
    let depart = task.query.now.depart in
    let d : to_z w64 (of_z w64 depart) ≡ depart = to_z-of_z w64 depart (search rules) in
    let e : to_z w64 (of_z w64 c.later-earliest.result) ≡ c.later-earliest.result = to_z-of_z w64 c.later-earliest.result (search rules) in
    let earliest = e ∙ c.later-earliest.ensures ∙ ap (λ m. m +ℤ pos seconds) d in
    some_access task c.args.place c.access.result c.access.ensures seconds c.in-Some.is c.in_ok-ride.ride
    (subst (λ m. IsUnheldFrom task (boarded_first task seconds) c.args.place m c.in_ok-ride.ride) earliest
    (subst (λ w. IsUnheldFrom task (record { deadline = Never; walk = w; round = 1 }) c.args.place (to_z w64 (of_z w64 c.later-earliest.result)) c.in_ok-ride.ride) c.counted_walk.ensures
    c.in_ok-ride.ensures))
