-- The records are the trip's.
use Rattle.std.proofs.Common.{All, sym, subst}
use Rattle.fixed_trips.specs.Patterns.{IsPatternRow}
use Rattle.fixed_trips.proofs.numbering.has_pattern.Goals as goal

pub returns-then-not-trip : goal.returns-then-not-trip
returns-then-not-trip c = (
  λ t. record { once = c.if-not-trip.true; rows = subst (All IsPatternRow) c.as_slice.ensures (c.are_pattern_rows.ensures.0 t) },
  λ h. c.are_pattern_rows.ensures.1 (subst (All IsPatternRow) (sym c.as_slice.ensures) h.rows),
)
