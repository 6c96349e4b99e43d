use mir.Syntax.{w64}
use mir.Val.{of_z, to_z}
use Rattle.std.proofs.Common.{rules, ◌≡◌, ◌*◌, ◌+◌, ◌<◌, ◌≤◌, pos, ◌+ℤ◌, ◌≤ℤ◌, refl, sym, arith}
use Rattle.std.proofs.lemmas.Int.{ints, to_z-of_z}
use Rattle.std.proofs.lemmas.Option.{none-some, same_Some}
use Rattle.flex_model.specs.Journey.{counted, limit}
use Rattle.round_engine.specs.Chain.{pair_of, place_of, round_of}
use Rattle.flex_model.proofs.Walks.{egress_short, if_no_more}
use Rattle.round_engine.proofs.step.end_of.Goals as goal

pub returns-in_default : goal.returns-in_default
returns-in_default c = λ seconds h le. none-some seconds ((c.in_default.ensures seconds).0 h)

pub returns-then-arrival-limit_of : goal.returns-then-arrival-limit_of
returns-then-arrival-limit_of c = λ seconds h le.
    let same = same_Some c.in-Some.seconds seconds ((c.in-Some.ensures seconds).0 h) in
    let e : to_z w64 (of_z w64 (pair_of c.args.label.now).arrival) ≡ (pair_of c.args.label.now).arrival = to_z-of_z w64 (pair_of c.args.label.now).arrival (search rules) in
    let a = c.later-arrival.ensures in
    let b = c.limit_of.ensures in
    let t = c.if-arrival-limit_of.true in
    omega (arith, ints)

pub returns : goal.returns
returns c =
    let e : to_z w64 (of_z w64 (pair_of c.args.label.now).arrival) ≡ (pair_of c.args.label.now).arrival = to_z-of_z w64 (pair_of c.args.label.now).arrival (search rules) in
    let f : to_z w64 (of_z w64 c.later-arrival.result) ≡ c.later-arrival.result = to_z-of_z w64 c.later-arrival.result (search rules) in
    let a = c.later-arrival.ensures in
    let b = c.limit_of.ensures in
    let t = c.if-arrival-limit_of.false in
    let in_time : ((pair_of c.args.label.now).arrival +ℤ pos c.in-Some.seconds) ≤ℤ limit c.args.task.now.query.now = omega (arith, ints) in (
      c.in-Some.seconds,
      (c.in-Some.ensures c.in-Some.seconds).1 refl,
      in_time,
      (let g : c.counted_walk.result ≡ counted c.args.task.now.query.now c.in-Some.seconds = c.counted_walk.ensures in search rules),
      λ other h. sym (same_Some c.in-Some.seconds other ((c.in-Some.ensures other).0 h)),
    )

pub overflow_add-result : goal.overflow_add-result
overflow_add-result c =
    let task = c.args.task.now in
    let query = task.query.now in
    let short : c.in-Some.seconds ≤ 86400 =
    egress_short task.feed.now task.times.now query (place_of c.args.label.now) c.in-Some.seconds c.requires.task.times ((c.in-Some.ensures c.in-Some.seconds).1 refl) in
    let no_more : counted query c.in-Some.seconds ≤ c.in-Some.seconds = if_no_more query.walking c.in-Some.seconds in
    let g : c.counted_walk.result ≡ counted query c.in-Some.seconds = c.counted_walk.ensures in
    let w : (pair_of c.args.label.now).walk ≤ 86400 * round_of c.args.label.now = c.requires.label.walk in
    let r : round_of c.args.label.now < 256 = search rules in
    let sum : (pair_of c.args.label.now).walk + c.counted_walk.result < 4294967296 = omega arith in
    record { fits = sum }
