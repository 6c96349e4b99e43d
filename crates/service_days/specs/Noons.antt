-- The bases of a zone's days: 12 hours before the moment that the zone gives for noon, as in the GTFS Schedule reference at
-- "Time". Where the zone's clock shows noon twice that moment is the earlier one, and where it steps over noon the later one,
-- which is noon by the offset before the step, as RFC 5545 reads local times.
use Rattle.std.specs.Prelude.{◌≡◌, ℕ, ℤ, pos, ◌+ℤ◌, List, Some, length, slice_get}
use Rattle.jiff.specs.Types.{DateTime, TimeZone}
use Rattle.jiff.specs.Words.{IsHms, ambiguous_at, compatible_offset, epoch_day, instant_of, nanos_of_seconds}
use Rattle.service_days.specs.Bases.{day_count, first_day}

-- noon of a day
abbrev pub IsNoonOf : ℤ → DateTime → Type 0
IsNoonOf day noon = (epoch_day noon.date ≡ day) × IsHms (pos 12) (pos 0) (pos 0) (pos 0) noon.time

-- the base of a day in a zone
abbrev pub IsBaseIn : TimeZone → ℤ → ℤ → Type 0
IsBaseIn zone day base =
    (noon : DateTime) × IsNoonOf day noon
    × (nanos_of_seconds (base +ℤ pos 43200) ≡ instant_of noon
    (compatible_offset (ambiguous_at zone noon)))

-- the bases of all of a zone's days
pub record HasBasesOf (zone : TimeZone) (bases : List ℤ) : Type 0 where
  pub count : length bases ≡ day_count
  pub each : (k : ℕ) (base : ℤ) → slice_get bases k ≡ Some base
      → IsBaseIn zone (pos first_day +ℤ pos k) base
