use Rattle.std.proofs.Common.{rules}
use Rattle.round_engine.proofs.GainedBoardings.{label_done, labels_done, no_label_done, own_label}
use Rattle.round_engine.proofs.boarding.board_after_all.Goals as goal

pub loop-entry-init : goal.loop-entry-init
loop-entry-init c = no_label_done c.args.task.now c.args.entries.now c.args.into.now.items

pub loop-entry-preserved : goal.loop-entry-preserved
loop-entry-preserved c =
    label_done c.args.task.now c.args.entries.now c.requires.labels c.args.into.now.items c.loop-entry.into.items c.board_after.new.into.items c.loop-entry.entry-index _ (search rules)
    c.loop-entry.invariant c.in_ok-board_after.ensures.gains c.in_ok-board_after.ensures.boarded

pub returns-clause-boarded : goal.returns-clause-boarded
returns-clause-boarded c =
    labels_done c.args.task.now c.args.entries.now c.args.into.now.items c.loop-entry.into.items c.loop-entry.entry-index (search rules) c.loop-entry.invariant

pub board_after-requires-clause-label : goal.board_after-requires-clause-label
board_after-requires-clause-label c = own_label c.args.task.now c.args.entries.now c.requires.labels c.loop-entry.entry-index _ (search rules)
