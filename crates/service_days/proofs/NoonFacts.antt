-- The moment of noon in a zone.
use Rattle.std.proofs.Common.{◌≡◌, ℕ, zero, suc, ◌+◌, ◌*◌, ◌/◌, ◌≤◌, ◌∙◌, ◌+ℤ◌, ◌-ℤ◌, ◌*ℤ◌, ◌≤ℤ◌, ℤ, pos, negsuc, List, [], ◌∷◌, ◌++◌, Some, Result, length, slice_get, sym, ap, subst, arith, lit<, of_z, to_z, w64}
use Rattle.std.specs.Prelude.{int_div, unsigned_abs}
use Rattle.std.proofs.lemmas.Option.{none-some, same_Some}
use Rattle.std.proofs.lemmas.Int.{ints, to_z-of_z}
use Rattle.std.proofs.lemmas.Nat.{div-mul-add}
use Rattle.std.specs.Int.{int_div_euclid}
use Rattle.jiff.proofs.Family.{epoch_day-civil_nanos}
use Rattle.jiff.specs.Types.{AmbiguousOffset, DateTime, TimeZone, Timestamp}
use Rattle.jiff.specs.Words.{Error, IsInstantAt, IsTimestampNanos, ambiguous_at, civil_nanos, compatible_offset, epoch_day, instant_of, nanos_of_seconds, time_nanos}
use Rattle.service_days.specs.Noons.{IsNoonOf}

-- the nanoseconds of noon on a clock
noon-time : (noon : DateTime) (day : ℤ) → IsNoonOf day noon → time_nanos noon.time ≡ 43_200_000_000_000
noon-time noon day h = omega (arith, ints, h.1)

-- how far the zone's clock is ahead at noon
abbrev pub ahead : TimeZone → DateTime → ℤ
ahead zone noon = (compatible_offset (ambiguous_at zone noon)).seconds

-- the instant of noon, in seconds
abbrev pub noon_seconds : TimeZone → DateTime → ℤ → ℤ
noon_seconds zone noon day = ((pos 86400 *ℤ day) +ℤ pos 43200) -ℤ ahead zone noon

pub noon-instant : (zone : TimeZone) (noon : DateTime) (day : ℤ) → IsNoonOf day noon
    → instant_of noon (compatible_offset (ambiguous_at zone noon)) ≡ noon_seconds zone noon day *ℤ pos 1_000_000_000
unfolding civil_nanos
noon-instant zone noon day h =
    let time = noon-time noon day h in
    let date = h.0 in
    omega (arith, ints, time, date)

pub ahead-low : (zone : TimeZone) (noon : DateTime) → (pos 0 -ℤ pos 93599) ≤ℤ ahead zone noon
ahead-low zone noon = let h = (compatible_offset (ambiguous_at zone noon)).in_range in omega (arith, ints, h.0)

pub ahead-high : (zone : TimeZone) (noon : DateTime) → ahead zone noon ≤ℤ pos 93599
ahead-high zone noon = (compatible_offset (ambiguous_at zone noon)).in_range.1

-- whole seconds of an instant that has nothing below a second
pub whole-seconds : (k : ℤ) → pos 0 ≤ℤ k → int_div (k *ℤ pos 1_000_000_000) (pos 1_000_000_000) ≡ k
whole-seconds (pos n) h =
    let none : n * 1_000_000_000 + 0 ≡ n * 1_000_000_000 = omega arith in
    ap pos (ap (λ m. m / 1_000_000_000) (sym none) ∙ div-mul-add n 1_000_000_000 0 (lit< tt))
whole-seconds (negsuc n) h = absurd (omega (arith, ints, h))

-- bounds on the instant of noon of a zone's day
pub seconds-low : (zone : TimeZone) (noon : DateTime) (day : ℤ) → pos 5785 ≤ℤ day → pos 0 ≤ℤ noon_seconds zone noon day
seconds-low zone noon day low = omega (arith, ints, ahead-high zone noon)

pub seconds-high : (zone : TimeZone) (noon : DateTime) (day : ℤ) → day ≤ℤ pos 84010 → noon_seconds zone noon day ≤ℤ pos 10_000_000_000
seconds-high zone noon day high = omega (arith, ints, ahead-low zone noon)

pub is-instant : (k : ℤ) → pos 0 ≤ℤ k → k ≤ℤ pos 10_000_000_000 → IsTimestampNanos (k *ℤ pos 1_000_000_000)
is-instant k low high = (omega (arith, ints), omega (arith, ints))

-- the base, as a number of 64 bits
pub base-kept : (s : ℤ) → pos 0 ≤ℤ s → s ≤ℤ pos 10_000_000_000 → to_z w64 (of_z w64 (to_z w64 (of_z w64 s) -ℤ pos 43200)) ≡ s -ℤ pos 43200
base-kept s low high = grind (arith, ints, to_z-of_z)

pub base-value : (zone : TimeZone) (noon : DateTime) (day s : ℤ) → pos 5785 ≤ℤ day → day ≤ℤ pos 84010 → s ≡ noon_seconds zone noon day
    → to_z w64 (of_z w64 (to_z w64 (of_z w64 s) -ℤ pos 43200)) ≡ noon_seconds zone noon day -ℤ pos 43200
base-value zone noon day s low high e = rw e (base-kept _ (seconds-low zone noon day low) (seconds-high zone noon day high))

pub noon-again : (zone : TimeZone) (noon : DateTime) (day : ℤ) → IsNoonOf day noon
    → nanos_of_seconds ((noon_seconds zone noon day -ℤ pos 43200) +ℤ pos 43200) ≡ instant_of noon (compatible_offset (ambiguous_at zone noon))
noon-again zone noon day h =
    let back : (noon_seconds zone noon day -ℤ pos 43200) +ℤ pos 43200 ≡ noon_seconds zone noon day = omega (arith, ints) in
    ap nanos_of_seconds back ∙ sym (noon-instant zone noon day h)

near-zero : (z : ℤ) (n : ℕ) → z ≤ℤ pos n → (pos 0 -ℤ pos n) ≤ℤ z → unsigned_abs z ≤ n
near-zero (pos a) n high low = omega (arith, ints)
near-zero (negsuc a) n high low = omega (arith, ints)

-- the base is less than 26 hours from the day's midnight in UTC
pub base-near : (zone : TimeZone) (noon : DateTime) (day b : ℤ) → b ≡ noon_seconds zone noon day -ℤ pos 43200 → unsigned_abs (b -ℤ (pos 86400 *ℤ day)) ≤ 93599
base-near zone noon day b e =
    let low = ahead-low zone noon in
    let high = ahead-high zone noon in
    near-zero (b -ℤ (pos 86400 *ℤ day)) 93599 (omega (arith, ints, e, low)) (omega (arith, ints, e, high))

-- the moment that was chosen is that of noon
pub chosen-at : (zone : TimeZone) (noon dt : DateTime) (offsets : AmbiguousOffset) (r : Result Timestamp Error) → dt ≡ noon → offsets ≡ ambiguous_at zone noon
    → IsInstantAt dt (compatible_offset offsets) r → IsInstantAt noon (compatible_offset (ambiguous_at zone noon)) r
chosen-at zone noon dt offsets r same at chosen =
    subst (λ d. IsInstantAt d (compatible_offset (ambiguous_at zone noon)) r) same (subst (λ o. IsInstantAt dt (compatible_offset o) r) at chosen)

-- the day of a clock that shows its midnight
pub day-of-midnight : (dt : DateTime) (day : ℤ) → pos 0 ≤ℤ day → civil_nanos dt ≡ day *ℤ pos 86_400_000_000_000 → epoch_day dt.date ≡ day
day-of-midnight dt (pos n) low e =
    let none : n * 86_400_000_000_000 + 0 ≡ n * 86_400_000_000_000 = omega arith in
    epoch_day-civil_nanos dt ∙ ap (λ c. int_div_euclid c (pos 86_400_000_000_000)) e
    ∙ ap pos (ap (λ m. m / 86_400_000_000_000) (sym none) ∙ div-mul-add n 86_400_000_000_000 0 (lit< tt))
day-of-midnight dt (negsuc n) low e = absurd (omega (arith, ints, low))

-- what holds of each base so far, with one more base
pub each-push : (P : ℕ → ℤ → Type 0) (bases : List ℤ) (base : ℤ) → ((k : ℕ) (b : ℤ) → slice_get bases k ≡ Some b → P k b) → P (length bases) base
    → (k : ℕ) (b : ℤ) → slice_get (bases ++ base ∷ []) k ≡ Some b → P k b
each-push P [] base each here zero b e = subst (P 0) (same_Some base b e) here
each-push P [] base each here (suc k) b e = absurd (none-some b e)
each-push P (x ∷ rest) base each here zero b e = each zero b e
each-push P (x ∷ rest) base each here (suc k) b e = each-push (λ j. P (suc j)) rest base (λ j c f. each (suc j) c f) here k b e

pub each-none : (P : ℕ → ℤ → Type 0) (k : ℕ) (b : ℤ) → slice_get [] k ≡ Some b → P k b
each-none P k b e = absurd (none-some b e)
