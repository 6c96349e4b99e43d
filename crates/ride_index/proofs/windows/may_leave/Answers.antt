-- One may leave in time where the last second isn't too early, and the first isn't too late.
use Rattle.std.proofs.Common.{refl, arith}
use Rattle.std.proofs.lemmas.Bool.{false≢true}
use Rattle.std.proofs.lemmas.Int.{ints}
use Rattle.ride_index.proofs.windows.may_leave.Goals as goal

pub returns-then-last-earliest : goal.returns-then-last-earliest
returns-then-last-earliest c = (
  λ t. absurd (false≢true t),
  λ h. let late = h.0 in absurd (omega (arith, ints, c.from.ensures, c.last_second.ensures, c.if-last-earliest.true, late)),
)

pub returns-then-limit-first : goal.returns-then-limit-first
returns-then-limit-first c = (
  λ t. absurd (false≢true t),
  λ h. let soon = h.1 in absurd (omega (arith, ints, c.from-2.ensures, c.first_second.ensures, c.if-limit-first.true, soon)),
)

pub returns : goal.returns
returns c = (
  λ t. (omega (arith, ints, c.from.ensures, c.last_second.ensures, c.if-last-earliest.false), omega (arith, ints, c.from-2.ensures, c.first_second.ensures, c.if-limit-first.false)),
  λ h. refl,
)
