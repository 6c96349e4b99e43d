-- Record by record.
use Rattle.std.proofs.Common.{refl, sym, ◌∙◌, arith}
use Rattle.std.proofs.lemmas.Bool.{false≢true}
use Rattle.std.proofs.lemmas.Option.{slice_get-get_or}
use Rattle.ride_index.proofs.NeededRides.{all_free, free_more, none_free}
use Rattle.ride_index.proofs.boarded.are_free_after.Goals as goal

pub loop-at-init : goal.loop-at-init
loop-at-init c = none_free c.args.rows.now c.args.row

pub loop-at-preserved : goal.loop-at-preserved
loop-at-preserved c =
    let n = c.loop-at.at in
    free_more c.args.rows.now c.args.row n _ (slice_get-get_or c.args.rows.now n _ (omega (arith, c.loop-at-test.true)))
    (λ rule e. false≢true (sym c.if-is_booked.false ∙ c.is_booked.ensures.1 (rule, e))) c.loop-at.invariant

pub returns-then-is_booked : goal.returns-then-is_booked
returns-then-is_booked c = (
  λ e. absurd (false≢true e),
  λ free.
      let n = c.loop-at.at in
      let booked = c.is_booked.ensures.0 c.if-is_booked.true in
      absurd (free n _ booked.0 (omega (arith, c.loop-at.auto.at)) (slice_get-get_or c.args.rows.now n _ (omega (arith, c.loop-at-test.true))) booked.1),
)

pub returns : goal.returns
returns c = (λ e. all_free c.args.rows.now c.args.row c.loop-at.at (omega (arith, c.loop-at-test.false)) c.loop-at.invariant, λ free. refl)
