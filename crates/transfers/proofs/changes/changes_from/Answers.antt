-- The feed's rules are those of the slice.
use Rattle.std.proofs.Common.{◌≡◌, ◌↔◌, Contains, subst}
use Rattle.flex_model.specs.declared.change.ChangeRow.{ChangeRow}
use Rattle.transfers.proofs.changes.changes_from.Goals as goal

pub returns : goal.returns
returns c =
    subst (λ rows. (row : ChangeRow) → Contains c.rows_from.result.now row ↔ (Contains rows row × (row.from ≡ c.args.stop))) c.as_slice.ensures c.rows_from.ensures
