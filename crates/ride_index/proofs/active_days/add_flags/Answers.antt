-- Day by day.
use Rattle.std.proofs.Common.{◌≡◌, ◌++◌, w32, to_z, of_z, sym, append-nil, ◌∙◌, ap, arith}
use Rattle.std.proofs.lemmas.Int.{to_z-of_z}
use Rattle.ride_index.specs.ActiveDays.{active_flags}
use Rattle.ride_index.proofs.ActiveDayLists.{one_flag_more}
use Rattle.ride_index.proofs.active_days.add_flags.Goals as goal

pub loop-ahead-preserved : goal.loop-ahead-preserved
loop-ahead-preserved c =
    one_flag_more c.args.service.now (to_z w32 (of_z w32 c.args.first)) (to_z w32 (of_z w32 c.day_after.result)) c.loop-ahead.ahead c.args.flags.now.items c.loop-ahead.flags.items c.push.new.self.items c.active.result
    c.loop-ahead.invariant c.in_ok-push.ensures.items
    (to_z-of_z w32 c.day_after.result (record { sfits = c.day_after.type_inv }) ∙ c.day_after.ensures) c.active.ensures

pub returns : goal.returns
returns c =
    let first : to_z w32 (of_z w32 c.args.first) ≡ c.args.first = to_z-of_z w32 c.args.first c.ranges.first in
    let count : c.loop-ahead.ahead ≡ 22 = omega (arith, c.loop-ahead-test.false, c.loop-ahead.auto.ahead-end) in
    c.loop-ahead.invariant ∙ ap (λ f. c.args.flags.now.items ++ active_flags c.args.service.now f c.loop-ahead.ahead) first ∙ ap (λ n. c.args.flags.now.items ++ active_flags c.args.service.now c.args.first n) count

pub loop-ahead-init : goal.loop-ahead-init
unfolding active_flags
loop-ahead-init c = sym (append-nil c.args.flags.now.items)
