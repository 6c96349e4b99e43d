-- What a zone's value stands for.
use Rattle.std.specs.Prelude.{ℤ, List, Option, Some, None}
use Rattle.service_days.specs.Bases.{utc_bases}

-- the bases that the zone was given, or those of UTC where it was given none
abbrev pub bases_of : Option (List ℤ) → List ℤ
bases_of None = utc_bases
bases_of (Some bases) = bases
