use Rattle.bound_cert.proofs.Sequences.{all_before, no_row, other_row, this_row}
use Rattle.bound_cert.proofs.known.row_at.Goals as goal

pub returns-then-at-rows : goal.returns-then-at-rows
returns-then-at-rows c =
    all_before c.args.rows.now c.args.sequence c.rows_before-at.result c.requires.rising c.rows_before-at.ensures.before c.rows_before-at.ensures.after no_row c.if-at-rows.true

pub returns-then-rows-at : goal.returns-then-rows-at
returns-then-rows-at c =
    other_row c.args.rows.now c.args.sequence c.rows_before-at.result c.requires.rising c.rows_before-at.ensures.before c.rows_before-at.ensures.after _ c.if-at-rows.false c.if-rows-at.true

pub returns : goal.returns
returns c =
    this_row c.args.rows.now c.args.sequence c.rows_before-at.result c.requires.rising c.rows_before-at.ensures.before c.rows_before-at.ensures.after _ c.if-at-rows.false c.if-rows-at.false
