use Rattle.std.proofs.Common.{◌≡◌, ◌≤◌, ◌+ℤ◌, ◌-ℤ◌, ◌*ℤ◌, ℕ, ℤ, pos, Some, length, slice_get}
use Rattle.std.specs.Prelude.{unsigned_abs}
use Rattle.jiff.specs.Words.{plain_zone}
use Rattle.service_days.specs.Bases.{first_day}
use Rattle.service_days.specs.Noons.{IsBaseIn}
use Rattle.service_days.proofs.noons.zone_bases.Given as goal

abbrev pub invariant-loop-index : goal.invariant-loop-index
invariant-loop-index l = record {
  count : length l.bases ≡ l.index;
  each : (k : ℕ) (base : ℤ) → slice_get l.bases k ≡ Some base → IsBaseIn (plain_zone l.zone) (pos first_day +ℤ pos k) base;
  near : (k : ℕ) (base : ℤ) → slice_get l.bases k ≡ Some base → unsigned_abs (base -ℤ (pos 86400 *ℤ (pos first_day +ℤ pos k))) ≤ 93599;
}
