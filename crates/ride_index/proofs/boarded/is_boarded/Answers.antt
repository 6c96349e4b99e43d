-- Test by test.
use Rattle.std.proofs.Common.{◌≡◌, ◌<◌, w64, to_z, of_z, length, sym, ◌∙◌, subst, arith}
use Rattle.std.proofs.lemmas.Bool.{false≢true}
use Rattle.std.proofs.lemmas.Int.{to_z-of_z}
use Rattle.std.proofs.lemmas.Option.{slice_get-get_or}
use Rattle.flex_model.proofs.Found.{slice_get_unique}
use Rattle.ride_index.specs.Boarded.{CanBoard}
use Rattle.ride_index.proofs.NeededRides.{boarded_at}
use Rattle.ride_index.proofs.boarded.is_boarded.Goals as goal

pub returns-then-row-at : goal.returns-then-row-at
returns-then-row-at c = (λ e. absurd (false≢true e), λ h. absurd (omega (arith, h.early, c.if-row-at.true)))

pub returns-then-not-is_as_good : goal.returns-then-not-is_as_good
returns-then-not-is_as_good c =
    (λ e. absurd (false≢true e), λ h. absurd (false≢true (sym c.if-not-is_as_good.true ∙ c.is_as_good.ensures.1 h.as_good)))

pub returns-then-not-can_board : goal.returns-then-not-can_board
returns-then-not-can_board c = (
  λ e. absurd (false≢true e),
  λ h.
      let rows = c.args.rows.now in
      let zero : to_z w64 (of_z w64 c.args.zero) ≡ c.args.zero = to_z-of_z w64 c.args.zero c.ranges.zero in
      let within : c.args.at < length rows = omega (arith, c.if-row-at.false, c.requires.row) in
      let same = slice_get_unique rows c.args.at h.row _ h.at_row (slice_get-get_or rows c.args.at _ within) in
      absurd (false≢true (sym c.if-not-can_board.true ∙ c.can_board.ensures.1 (subst (λ r. CanBoard r (to_z w64 (of_z w64 c.args.zero)) c.args.point.now) same
      (subst (λ z. CanBoard h.row z c.args.point.now) (sym zero) h.boards)))),
)

pub returns : goal.returns
returns c = (
  λ free.
      let rows = c.args.rows.now in
      let zero : to_z w64 (of_z w64 c.args.zero) ≡ c.args.zero = to_z-of_z w64 c.args.zero c.ranges.zero in
      let within : c.args.at < length rows = omega (arith, c.if-row-at.false, c.requires.row) in
      boarded_at rows c.args.at c.args.row _ (to_z w64 (of_z w64 c.args.zero)) c.args.zero c.args.point.now c.args.carried.now zero (omega (arith, c.if-row-at.false))
      (c.is_as_good.ensures.0 c.if-not-is_as_good.false) (slice_get-get_or rows c.args.at _ within) (c.can_board.ensures.0 c.if-not-can_board.false) (c.are_free_after.ensures.0 free),
  λ h. c.are_free_after.ensures.1 h.free,
)
