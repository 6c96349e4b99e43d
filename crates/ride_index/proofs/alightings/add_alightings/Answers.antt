-- Record by record, up to one that is late.
use Rattle.std.proofs.Common.{◌≡◌, w64, to_z, of_z, sym, ◌∙◌, subst, arith}
use Rattle.std.proofs.lemmas.Bool.{false≢true}
use Rattle.std.proofs.lemmas.Int.{to_z-of_z}
use Rattle.std.proofs.lemmas.Option.{slice_get-get_or}
use Rattle.ride_index.specs.TimedRides.{IsAlighting}
use Rattle.ride_index.proofs.RowRides.{all_rows, next_row, none_after}
use Rattle.ride_index.proofs.RideLists.{Gained}
use Rattle.ride_index.proofs.alightings.add_alightings.Goals as goal

pub loop-to_row-preserved : goal.loop-to_row-preserved
loop-to_row-preserved c =
    let n = c.loop-to_row.to_row in
    next_row c.args.rows.now c.args.boarded.now (to_z w64 (of_z w64 c.args.zero)) (to_z w64 (of_z w64 c.args.limit)) n _ c.ride_to.result
    c.args.found.now.items c.loop-to_row.found.items c.add_some.new.found.items
    (slice_get-get_or c.args.rows.now n _ (omega (arith, c.loop-to_row-test.true))) (omega (arith, c.loop-to_row.auto.to_row))
    (λ late. absurd (false≢true (sym c.if-is_late.false ∙ c.is_late.ensures.1 late))) c.ride_to.ensures c.loop-to_row.invariant c.in_ok-add_some.ensures

pub returns-then-is_late : goal.returns-then-is_late
returns-then-is_late c =
    let n = c.loop-to_row.to_row in
    let zero : to_z w64 (of_z w64 c.args.zero) ≡ c.args.zero = to_z-of_z w64 c.args.zero c.ranges.zero in
    let limit : to_z w64 (of_z w64 c.args.limit) ≡ c.args.limit = to_z-of_z w64 c.args.limit c.ranges.limit in
    subst (λ l. Gained (IsAlighting c.args.rows.now c.args.boarded.now c.args.zero l) c.args.found.now.items c.loop-to_row.found.items) limit
    (subst (λ z. Gained (IsAlighting c.args.rows.now c.args.boarded.now z (to_z w64 (of_z w64 c.args.limit))) c.args.found.now.items c.loop-to_row.found.items) zero
    (none_after c.args.rows.now c.args.boarded.now (to_z w64 (of_z w64 c.args.zero)) (to_z w64 (of_z w64 c.args.limit)) n _ c.args.found.now.items c.loop-to_row.found.items
    c.requires.rows (slice_get-get_or c.args.rows.now n _ (omega (arith, c.loop-to_row-test.true))) (c.is_late.ensures.0 c.if-is_late.true) c.loop-to_row.invariant))

pub returns : goal.returns
returns c =
    let zero : to_z w64 (of_z w64 c.args.zero) ≡ c.args.zero = to_z-of_z w64 c.args.zero c.ranges.zero in
    let limit : to_z w64 (of_z w64 c.args.limit) ≡ c.args.limit = to_z-of_z w64 c.args.limit c.ranges.limit in
    subst (λ l. Gained (IsAlighting c.args.rows.now c.args.boarded.now c.args.zero l) c.args.found.now.items c.loop-to_row.found.items) limit
    (subst (λ z. Gained (IsAlighting c.args.rows.now c.args.boarded.now z (to_z w64 (of_z w64 c.args.limit))) c.args.found.now.items c.loop-to_row.found.items) zero
    (all_rows c.args.rows.now c.args.boarded.now (to_z w64 (of_z w64 c.args.zero)) (to_z w64 (of_z w64 c.args.limit)) c.loop-to_row.to_row c.args.found.now.items c.loop-to_row.found.items
    (omega (arith, c.loop-to_row-test.false)) c.loop-to_row.invariant))
