-- Record by record.
use Rattle.std.proofs.Common.{◌≡◌, inl, inr, get_or, sym, ◌∙◌, ap, subst, arith}
use Rattle.std.proofs.lemmas.Bool.{cases_lt}
use Rattle.std.proofs.lemmas.Option.{get_or_from_slice_get, slice_get-get_or}
use Rattle.fixed_trips.specs.Patterns.{IsPatternRow}
use Rattle.fixed_trips.proofs.numbering.are_pattern_rows.Goals as goal

pub loop-row-preserved : goal.loop-row-preserved
loop-row-preserved c = λ k d lt. elim (cases_lt k c.loop-row.row-index) [
  | inl less ↦ c.loop-row.invariant k d less
  | inr le ↦ (
      let rows = c.args.rows.now in
      let n = c.loop-row.row-index in
      let e : k ≡ n = omega (arith, lt, le) in
      let same : get_or rows n d ≡ get_or rows n _ = get_or_from_slice_get rows n (get_or rows n _) d (slice_get-get_or rows n _ (omega (arith, c.loop-row-test.true))) in
      subst IsPatternRow (sym (ap (λ j. get_or rows j d) e ∙ same)) (c.is_pattern_row.ensures.0 c.if-not-is_pattern_row.false))
]
