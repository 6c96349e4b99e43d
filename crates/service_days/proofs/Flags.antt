-- The flag of a weekday.
use Rattle.std.proofs.Common.{◌≡◌, ℕ, zero, suc, Bool, false, List, [], ◌∷◌, get_or, slice_get, refl}
use Rattle.std.specs.Prelude.{unwrap_or}

pub flag_at : (flags : List Bool) (k : ℕ) → unwrap_or (slice_get flags k) false ≡ get_or flags k false
flag_at [] k = refl
flag_at (flag ∷ flags) zero = refl
flag_at (flag ∷ flags) (suc k) = flag_at flags k
