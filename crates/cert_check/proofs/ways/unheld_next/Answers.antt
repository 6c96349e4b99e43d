use mir.Syntax.{w64}
use mir.Val.{of_z, to_z}
use Rattle.std.proofs.Common.{rules, ◌≡◌, ◌≤ℤ◌, arith}
use Rattle.std.proofs.lemmas.Int.{ints, to_z-of_z}
use Rattle.flex_model.specs.Journey.{limit}
use Rattle.cert_check.proofs.WaysHeld.{too_late}
use Rattle.cert_check.proofs.ways.unheld_next.Goals as goal

pub returns-then-label-limit_of : goal.returns-then-label-limit_of
returns-then-label-limit_of c =
    let arrival = c.args.label.now.label.arrival in
    let e : to_z w64 (of_z w64 arrival) ≡ arrival = to_z-of_z w64 arrival (search rules) in
    let f : to_z w64 (of_z w64 c.limit_of.result) ≡ c.limit_of.result = to_z-of_z w64 c.limit_of.result (search rules) in
    let b = c.limit_of.ensures in
    let t = c.if-label-limit_of.true in
    too_late c.args.task.now c.requires.task c.args.label.now (λ (le : arrival ≤ℤ limit c.args.task.now.query.now). omega (arith, ints))
