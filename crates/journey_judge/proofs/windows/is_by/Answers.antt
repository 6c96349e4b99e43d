-- The later moment is found where it isn't past the limit.
use Rattle.std.proofs.Common.{arith}
use Rattle.std.proofs.lemmas.Int.{ints}
use Rattle.journey_judge.proofs.WindowTimes.{is_found}
use Rattle.journey_judge.proofs.windows.is_by.Goals as goal

pub returns : goal.returns
returns c =
    let by = is_found _ _ c.after.result c.after.ensures c.is_some.result c.is_some.ensures in
    (λ t. let e = by.0 t in omega (arith, ints), λ e. by.1 (omega (arith, ints)))
