use Rattle.std.proofs.Common.{◌≡◌, ◌+◌, ◌<◌, true, false, None, Some, length, get_or, sym, ◌∙◌, ap, subst, arith}
use Rattle.feed_load.specs.LinearTimes.{IsFilledAt, is_timed, is_untimed, row_at, timed_row}
use Rattle.feed_load.proofs.LinearGaps.{IsOpen, IsState, alone, fills, goes_on, next_in, none_by, not-both, opens, no_times, passed_by, read_is, rest_is, rows_from, some_left, stays, writes}
use Rattle.feed_load.proofs.linear_times.fill_times.Goals as goal
use Rattle.feed_load.proofs.linear_times.fill_times.Goals.{then-is_timed, else-is_timed}

pub loop-index-preserved-then-not-is_untimed : goal.loop-index-preserved-then-not-is_untimed
loop-index-preserved-then-not-is_untimed c =
    let old = c.args.rows.now in
    let new = c.loop-index.rows in
    let i = c.loop-index.index in
    let f = c.loop-index.invariant in
    let low : i < length old = omega (arith, f.many) in
    let same = read_is old i new c.loop-index.gap f low in
    let other : is_untimed (row_at old i) ≡ false = ap is_untimed (sym same) ∙ sym c.is_untimed.ensures ∙ c.if-not-is_untimed.true in
    elim c.if-is_timed.branch [
      | then-is_timed w ↦
          goes_on old i new c.loop-index.gap c.if-is_timed.gap low f (stays old i other)
          (subst (IsState old (i + 1)) (sym w.gap-is)
          (opens old i (get_or new i no_times) _ w.gap_from-gap.result (sym c.is_timed.ensures ∙ w.if-is_timed.true) same (rows_from new (i + 1) ∙ rest_is old i new c.loop-index.gap f low) w.gap_from-gap.ensures))
      | else-is_timed w ↦
          goes_on old i new c.loop-index.gap c.if-is_timed.gap low f (stays old i other)
          (subst (IsState old (i + 1)) (sym w.gap-is)
          (passed_by old i c.loop-index.gap low (ap is_timed (sym same) ∙ sym c.is_timed.ensures ∙ w.if-is_timed.false) other f.state))
    ]

pub loop-index-preserved-in_default : goal.loop-index-preserved-in_default
loop-index-preserved-in_default c =
    let old = c.args.rows.now in
    let new = c.loop-index.rows in
    let i = c.loop-index.index in
    let f = c.loop-index.invariant in
    let low : i < length old = omega (arith, f.many) in
    let same = read_is old i new c.loop-index.gap f low in
    let untimed : is_untimed (row_at old i) ≡ true = ap is_untimed (sym same) ∙ sym c.is_untimed.ensures ∙ c.if-not-is_untimed.false in
    elim c.if-is_timed.branch [
      | then-is_timed w ↦ absurd (not-both (row_at old i) (ap is_timed (sym same) ∙ sym c.is_timed.ensures ∙ w.if-is_timed.true) untimed)
      | else-is_timed w ↦
          let state : IsState old i None = subst (IsState old i) (sym w.gap-is ∙ c.in_default.is) f.state in
          goes_on old i new c.loop-index.gap c.if-is_timed.gap low f (alone old i state)
          (subst (IsState old (i + 1)) (sym c.in_default.is) (none_by old i untimed state))
    ]

pub time_in-time-requires : goal.time_in-time-requires
time_in-time-requires c =
    let old = c.args.rows.now in
    let new = c.loop-index.rows in
    let i = c.loop-index.index in
    let f = c.loop-index.invariant in
    let low : i < length old = omega (arith, f.many) in
    let same = read_is old i new c.loop-index.gap f low in
    let untimed : is_untimed (row_at old i) ≡ true = ap is_untimed (sym same) ∙ sym c.is_untimed.ensures ∙ c.if-not-is_untimed.false in
    elim c.if-is_timed.branch [
      | then-is_timed w ↦ absurd (not-both (row_at old i) (ap is_timed (sym same) ∙ sym c.is_timed.ensures ∙ w.if-is_timed.true) untimed)
      | else-is_timed w ↦ some_left old i c.in-Some.open untimed (subst (IsState old i) (sym w.gap-is ∙ c.in-Some.is) f.state)
    ]

pub loop-index-preserved : goal.loop-index-preserved
loop-index-preserved c =
    let old = c.args.rows.now in
    let new = c.loop-index.rows in
    let i = c.loop-index.index in
    let f = c.loop-index.invariant in
    let low : i < length old = omega (arith, f.many) in
    let same = read_is old i new c.loop-index.gap f low in
    let untimed : is_untimed (row_at old i) ≡ true = ap is_untimed (sym same) ∙ sym c.is_untimed.ensures ∙ c.if-not-is_untimed.false in
    elim c.if-is_timed.branch [
      | then-is_timed w ↦ absurd (not-both (row_at old i) (ap is_timed (sym same) ∙ sym c.is_timed.ensures ∙ w.if-is_timed.true) untimed)
      | else-is_timed w ↦
          let state : IsOpen old i c.in-Some.open = subst (IsState old i) (sym w.gap-is ∙ c.in-Some.is) f.state in
          writes old i new (timed_row c.time_in-time.result) c.loop-index.gap (Some (record c.in-Some.open { passed = c.in-Some.open.passed + 1 })) low f
          (subst (λ t. IsFilledAt old i (timed_row t)) (sym c.time_in-time.ensures) (fills old i c.in-Some.open untimed state))
          (next_in old i c.in-Some.open untimed state)
    ]
