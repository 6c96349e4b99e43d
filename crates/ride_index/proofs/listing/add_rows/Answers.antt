-- Record by record.
use Rattle.std.proofs.Common.{arith}
use Rattle.std.proofs.lemmas.Option.{slice_get-get_or}
use Rattle.ride_index.proofs.DepartureLists.{all_rows, next_row}
use Rattle.ride_index.proofs.listing.add_rows.Goals as goal

pub loop-at-preserved : goal.loop-at-preserved
loop-at-preserved c =
    next_row c.args.kind c.args.rows.now c.args.trip c.loop-at.at _ c.args.found.now.items c.loop-at.found.items c.add_departure.new.found.items
    (slice_get-get_or c.args.rows.now c.loop-at.at _ (omega (arith, c.loop-at-test.true))) c.loop-at.invariant c.in_ok-add_departure.ensures

pub returns : goal.returns
returns c =
    all_rows c.args.kind c.args.rows.now c.args.trip c.loop-at.at c.args.found.now.items c.loop-at.found.items (omega (arith, c.loop-at-test.false)) c.loop-at.invariant
