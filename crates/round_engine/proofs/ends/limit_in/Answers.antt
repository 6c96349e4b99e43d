use mir.Syntax.{w64}
use mir.Val.{of_z, to_z}
use Rattle.std.proofs.Common.{◌≡◌, ◌+◌, Contains, sym, subst, take, arith}
use Rattle.std.proofs.lemmas.Int.{to_z-of_z}
use Rattle.std.proofs.lemmas.List.{take_all}
use Rattle.round_engine.specs.Limits.{IsLimitOver}
use Rattle.round_engine.proofs.Limits.{limit_next, limit_none}
use Rattle.round_engine.proofs.ends.limit_in.Goals as goal

pub loop-entry-init : goal.loop-entry-init
loop-entry-init c = limit_none c.args.deadline c.args.walk c.args.entries.now (to_z w64 (of_z w64 c.args.limit))

pub loop-entry-preserved : goal.loop-entry-preserved
loop-entry-preserved c =
    let n = c.loop-entry.entry-index in
    let limit = to_z w64 (of_z w64 c.args.limit) in
    let next : to_z w64 (of_z w64 c.limit_by-least.result) ≡ c.limit_by-least.result = to_z-of_z w64 c.limit_by-least.result (record { sfits = c.limit_by-least.type_inv }) in
    subst (λ m. IsLimitOver (λ x. Contains (take (n + 1) c.args.entries.now) x) c.args.deadline c.args.walk limit m) (sym next)
    (limit_next c.args.deadline c.args.walk c.args.entries.now n _ limit _ c.limit_by-least.result (omega (arith, c.loop-entry-test.true)) c.loop-entry.invariant c.limit_by-least.ensures)

pub returns : goal.returns
returns c =
    let least = to_z w64 c.loop-entry.least-bits in
    let limit : to_z w64 (of_z w64 c.args.limit) ≡ c.args.limit = to_z-of_z w64 c.args.limit c.ranges.limit in
    subst (λ xs. IsLimitOver (λ x. Contains xs x) c.args.deadline c.args.walk c.args.limit least)
    (take_all c.loop-entry.entry-index c.args.entries.now (omega (arith, c.loop-entry-test.false)))
    (subst (λ m. IsLimitOver (λ x. Contains (take c.loop-entry.entry-index c.args.entries.now) x) c.args.deadline c.args.walk m least) limit c.loop-entry.invariant)
