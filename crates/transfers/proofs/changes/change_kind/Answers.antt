-- The search goes by the order of the list.
use Rattle.std.proofs.Common.{rules}
use Rattle.std.proofs.lemmas.Fn.{always_returns_same}
use Rattle.transfers.specs.ChangeOrder.{change_cmp}
use Rattle.transfers.proofs.RulesFound.{answers_rise, kind_absent, kind_found}
use Rattle.transfers.proofs.changes.change_kind.Goals as goal

pub returns-in-Ok : goal.returns-in-Ok
returns-in-Ok c =
    let found = c.in-Ok.ensures.position (change_cmp c.args.from c.args.to) (always_returns_same _ _ _ (λ a r g called. (search rules, search rules))) in
    kind_found c.args.changes.now c.requires c.args.from c.args.to c.in-Ok.index c.in-Ok.ensures.bound (found _)

pub returns-in-Err : goal.returns-in-Err
returns-in-Err c =
    let absent = c.in-Err.ensures.position (change_cmp c.args.from c.args.to) (always_returns_same _ _ _ (λ a r g called. (search rules, search rules))) in
    kind_absent c.args.changes.now c.requires c.args.from c.args.to c.in-Err.field-0 (absent (answers_rise c.args.changes.now c.requires c.args.from c.args.to))
