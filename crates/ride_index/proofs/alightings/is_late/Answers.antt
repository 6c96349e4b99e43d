-- A record is late where its arrival is.
use Rattle.std.proofs.Common.{refl, arith}
use Rattle.std.proofs.lemmas.Bool.{false≢true}
use Rattle.std.proofs.lemmas.Int.{ints}
use Rattle.ride_index.proofs.RowRides.{in_time_not_late}
use Rattle.ride_index.proofs.alightings.is_late.Goals as goal

pub returns-in_default : goal.returns-in_default
returns-in_default c = (λ t. absurd (false≢true t), λ h. absurd (c.in_default.not-Some (record { stop = h.0; arrives = h.1 }) ((c.stop_time.ensures h.0 h.1).1 h.2)))

pub returns-then-limit-moment_after : goal.returns-then-limit-moment_after
returns-then-limit-moment_after c =
    let at = (c.stop_time.ensures c.in-Some.at.stop c.in-Some.at.arrives).0 c.in-Some.is in
    (λ t. (c.in-Some.at.stop, c.in-Some.at.arrives, at, omega (arith, ints, c.moment_after.ensures, c.if-limit-moment_after.true)), λ h. refl)

pub returns : goal.returns
returns c =
    let at = (c.stop_time.ensures c.in-Some.at.stop c.in-Some.at.arrives).0 c.in-Some.is in (
      λ t. absurd (false≢true t),
      λ h. absurd (in_time_not_late c.args.row.now c.in-Some.at.stop c.in-Some.at.arrives c.args.zero c.args.limit at (omega (arith, ints, c.moment_after.ensures, c.if-limit-moment_after.false)) h),
    )
