use mir.Syntax.{w64}
use mir.Val.{of_z, to_z}
use Rattle.std.proofs.Common.{rules, ◌≡◌, ◌+◌, ◌≤ℤ◌, ◌+ℤ◌, pos, refl, sym, ◌∙◌, ap, arith}
use Rattle.std.proofs.lemmas.Int.{ints, to_z-of_z}
use Rattle.std.proofs.lemmas.Option.{none-some, same_Some}
use Rattle.flex_model.specs.Journey.{limit}
use Rattle.cert_check.proofs.EndsFound.{as_pair}
use Rattle.cert_check.proofs.ends.end_of.Goals as goal

pub returns-in_default : goal.returns-in_default
returns-in_default c = λ seconds egress le. none-some seconds ((c.in_default.ensures seconds).0 egress)

pub returns-then-arrival-latest : goal.returns-then-arrival-latest
returns-then-arrival-latest c = λ seconds egress le.
    let same = same_Some c.in-Some.seconds seconds ((c.in-Some.ensures seconds).0 egress) in
    let e : to_z w64 (of_z w64 c.args.label.now.label.arrival) ≡ c.args.label.now.label.arrival = to_z-of_z w64 c.args.label.now.label.arrival (search rules) in
    let f : to_z w64 (of_z w64 c.later-arrival.result) ≡ c.later-arrival.result = to_z-of_z w64 c.later-arrival.result (search rules) in
    let g : to_z w64 (of_z w64 c.limit_of-latest.result) ≡ c.limit_of-latest.result = to_z-of_z w64 c.limit_of-latest.result (search rules) in
    let a = c.later-arrival.ensures in
    let b = c.limit_of-latest.ensures in
    let t = c.if-arrival-latest.true in
    omega (arith, ints)

pub returns : goal.returns
returns c =
    let label = c.args.label.now.label in
    let seconds = c.in-Some.seconds in
    let e : to_z w64 (of_z w64 label.arrival) ≡ label.arrival = to_z-of_z w64 label.arrival (search rules) in
    let f : to_z w64 (of_z w64 c.later-arrival.result) ≡ c.later-arrival.result = to_z-of_z w64 c.later-arrival.result (search rules) in
    let g : to_z w64 (of_z w64 c.limit_of-latest.result) ≡ c.limit_of-latest.result = to_z-of_z w64 c.limit_of-latest.result (search rules) in
    let a = c.later-arrival.ensures in
    let b = c.limit_of-latest.ensures in
    let t = c.if-arrival-latest.false in
    let in_time : (label.arrival +ℤ pos seconds) ≤ℤ limit c.args.task.now.query.now = omega (arith, ints) in
    let arrives = f ∙ a ∙ ap (λ m. m +ℤ pos seconds) e in
    let walk = c.counted_walk.ensures in (
      seconds,
      (c.in-Some.ensures seconds).1 refl,
      in_time,
      ap (λ m. as_pair label.deadline m (label.walk + c.counted_walk.result)) arrives
          ∙ ap (λ n. as_pair label.deadline (label.arrival +ℤ pos seconds) (label.walk + n)) walk,
      λ other h. sym (same_Some seconds other ((c.in-Some.ensures other).0 h)),
    )
