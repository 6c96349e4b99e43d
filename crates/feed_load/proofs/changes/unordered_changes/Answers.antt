use Rattle.std.proofs.Common.{◌∙◌}
use Rattle.feed_tables.specs.Records.{header_of}
use Rattle.feed_load.specs.ChangeTables.{HasSoundSeconds}
use Rattle.feed_load.proofs.ChangesFound.{change_added, change_passed, holds_earlier, holds_here}
use Rattle.feed_load.proofs.changes.unordered_changes.Goals as goal

pub loop-row-preserved : goal.loop-row-preserved
loop-row-preserved c = λ tables are all.
    let header = header_of c.args.transfers.now in
    let row = c.in-Some.row in
    c.in_ok-push.ensures.items
    ∙ change_added tables header c.loop-row.yielded row c.loop-row.changes.items c.in-Some-change_of.change
    (c.loop-row.invariant tables are (holds_earlier HasSoundSeconds header c.loop-row.yielded row all))
    (c.in-Some-change_of.ensures tables header are c.change_columns-columns.ensures (holds_here HasSoundSeconds header c.loop-row.yielded row all))

pub loop-row-preserved-in_default : goal.loop-row-preserved-in_default
loop-row-preserved-in_default c = λ tables are all.
    let header = header_of c.args.transfers.now in
    let row = c.in-Some.row in
    change_passed tables header c.loop-row.yielded row c.loop-row.changes.items
    (c.loop-row.invariant tables are (holds_earlier HasSoundSeconds header c.loop-row.yielded row all))
    (c.in_default.ensures tables header are c.change_columns-columns.ensures (holds_here HasSoundSeconds header c.loop-row.yielded row all))
