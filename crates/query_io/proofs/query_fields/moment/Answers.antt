use Rattle.std.proofs.Common.{Some, sym, ◌∙◌, ap, rules, arith, w64}
use mir.Val.{SFits}
use Rattle.std.proofs.lemmas.Int.{ints, to_z-of_z}
use Rattle.query_io.proofs.QueryMoments.{moment_absent, moment_dropped, moment_kept}
use Rattle.query_io.proofs.query_fields.moment.Goals as goal
use Rattle.query_io.proofs.query_fields.moment.Goals.{then-moment-lt-FIRST_QUERY_MOMENT-via-then-moment-lt-FIRST_QUERY_MOMENT, then-moment-lt-FIRST_QUERY_MOMENT-via-else-moment-lt-FIRST_QUERY_MOMENT+then-moment-gt-LAST_QUERY_MOMENT}

pub returns-in_default : goal.returns-in_default
returns-in_default c = moment_absent c.args.text.now (sym c.in_default.ensures.value)

pub returns-then-moment-lt-FIRST_QUERY_MOMENT : goal.returns-then-moment-lt-FIRST_QUERY_MOMENT
returns-then-moment-lt-FIRST_QUERY_MOMENT c =
    moment_dropped c.args.text.now c.in-Ok.moment (sym c.in-Ok.ensures.value) (λ q.
    let low = q.low in
    let high = q.high in
    elim c.then-moment-lt-FIRST_QUERY_MOMENT.branch [
      | then-moment-lt-FIRST_QUERY_MOMENT-via-then-moment-lt-FIRST_QUERY_MOMENT w ↦ omega (arith, ints)
      | then-moment-lt-FIRST_QUERY_MOMENT-via-else-moment-lt-FIRST_QUERY_MOMENT+then-moment-gt-LAST_QUERY_MOMENT w ↦ omega (arith, ints)
    ])

pub returns : goal.returns
returns c =
    let fits : SFits w64 c.in-Ok.moment = search rules in
    ap Some (to_z-of_z w64 c.in-Ok.moment fits) ∙ moment_kept c.args.text.now c.in-Ok.moment (sym c.in-Ok.ensures.value) (omega (arith, ints)) (omega (arith, ints))
