use mir.Syntax.{w64}
use mir.Val.{of_z, to_z}
use Rattle.std.proofs.Common.{◌≡◌, ◌+◌, Contains, sym, subst, arith}
use Rattle.std.proofs.lemmas.Int.{to_z-of_z}
use Rattle.round_engine.specs.Limits.{IsLimitOver}
use Rattle.round_engine.proofs.Limits.{IsInFirst, bags_all, bags_next, bags_none}
use Rattle.round_engine.proofs.ends.limit_over.Goals as goal

pub loop-t-init : goal.loop-t-init
loop-t-init c = bags_none c.args.deadline c.args.walk c.args.bags.now (to_z w64 (of_z w64 c.args.limit))

pub loop-t-preserved : goal.loop-t-preserved
loop-t-preserved c =
    let limit = to_z w64 (of_z w64 c.args.limit) in
    let next : to_z w64 (of_z w64 c.limit_in-least.result) ≡ c.limit_in-least.result = to_z-of_z w64 c.limit_in-least.result (record { sfits = c.limit_in-least.type_inv }) in
    subst (λ m. IsLimitOver (IsInFirst c.args.bags.now (c.loop-t.t + 1)) c.args.deadline c.args.walk limit m) (sym next)
    (bags_next c.args.deadline c.args.walk c.args.bags.now c.loop-t.t limit (to_z w64 c.loop-t.least-bits) c.limit_in-least.result c.loop-t.invariant
    (subst (λ xs. IsLimitOver (λ entry. Contains xs entry) c.args.deadline c.args.walk (to_z w64 c.loop-t.least-bits) c.limit_in-least.result) c.labels.ensures.labels c.limit_in-least.ensures))

pub returns : goal.returns
returns c =
    let least = to_z w64 c.loop-t.least-bits in
    let limit : to_z w64 (of_z w64 c.args.limit) ≡ c.args.limit = to_z-of_z w64 c.args.limit c.ranges.limit in
    bags_all c.args.deadline c.args.walk c.args.bags.now c.loop-t.t c.args.limit least (omega (arith, c.loop-t-test.false, c.width-t-end.ensures))
    (subst (λ m. IsLimitOver (IsInFirst c.args.bags.now c.loop-t.t) c.args.deadline c.args.walk m least) limit c.loop-t.invariant)
