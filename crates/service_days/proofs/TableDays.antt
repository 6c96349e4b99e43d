-- Days of a table and moments, as the code computes them.
use Rattle.std.proofs.Common.{◌≡◌, ◌↔◌, ℕ, ◌+◌, ◌<◌, ◌≤◌, ℤ, pos, negsuc, ◌+ℤ◌, ◌-ℤ◌, ◌*ℤ◌, ◌≤ℤ◌, ◌<ℤ◌, Some, slice_get, length, get_or, refl, ap, sym, ◌∙◌, subst, to_z, of_z, w64, arith}
use Rattle.std.specs.Prelude.{nat_abs, unsigned_abs}
use Rattle.std.proofs.lemmas.Int.{ints, to_z-of_z}
use Rattle.std.proofs.lemmas.Option.{slice_get_within, slice_get-get_or, same_Some}
use Rattle.flex_model.specs.declared.moment.DayTable.{DayTable}
use Rattle.flex_model.specs.ServiceDay.{BeginsAt, IsMoment, IsTravelDay}
use Rattle.flex_model.specs.SoundQuery.{IsSoundDayTable}
use Rattle.flex_model.proofs.DayLaws.{BeginsAt_unique, IsMoment_unique}

-- a number that isn't negative
nat_of : (z : ℤ) → pos 0 ≤ℤ z → (n : ℕ) × (z ≡ pos n)
nat_of (pos n) p = (n, refl)
nat_of (negsuc n) p = absurd (omega (arith, ints))

-- the travel days are those from the 1,505th of the table on
pub travel_days : (days : DayTable) (day first : ℤ) → IsSoundDayTable days → first ≡ days.first +ℤ pos 1504
    → IsTravelDay days day ↔ ((first ≤ℤ day) × (day ≤ℤ (first +ℤ pos 21)))
travel_days days day first sound e = (there, back)
  where
    there : IsTravelDay days day → (first ≤ℤ day) × (day ≤ℤ (first +ℤ pos 21))
    there t =
        let count : length days.base ≡ 1526 = sound.count in
        let within : t.0 < length days.base = t.1 in
        let late : length days.base ≤ t.0 + 22 = t.2 in
        let is : day ≡ days.first +ℤ pos t.0 = t.3 in
        (omega (arith, ints), omega (arith, ints))

    back : (first ≤ℤ day) × (day ≤ℤ (first +ℤ pos 21)) → IsTravelDay days day
    back h =
        let low : first ≤ℤ day = h.0 in
        let high : day ≤ℤ (first +ℤ pos 21) = h.1 in
        let n = nat_of (day -ℤ days.first) (omega (arith, ints)) in
        let is : day -ℤ days.first ≡ pos n.0 = n.1 in
        let count : length days.base ≡ 1526 = sound.count in
        (n.0, omega (arith, ints), omega (arith, ints), omega (arith, ints))

-- the size of a base of a sound table
abs_bounds : (z : ℤ) (n : ℕ) → unsigned_abs z ≤ n → (z ≤ℤ pos n) × (pos 0 ≤ℤ (z +ℤ pos n))
abs_bounds (pos a) n le = (omega (arith, ints), omega (arith, ints))
abs_bounds (negsuc a) n le = (omega (arith, ints), omega (arith, ints))

pub base_bounds : (days : DayTable) (k : ℕ) (base : ℤ) → IsSoundDayTable days → slice_get days.base k ≡ Some base → (base ≤ℤ pos 10000000000) × (pos 0 ≤ℤ (base +ℤ pos 100000))
base_bounds days k base sound e =
    let within = slice_get_within days.base k base e in
    let count : length days.base ≡ 1526 = sound.count in
    let near = abs_bounds (base -ℤ (pos 86400 *ℤ (days.first +ℤ pos k))) 93599 (sound.near k base e) in
    let low = sound.low in
    let high = sound.high in
    let upper = near.0 in
    let lower = near.1 in
    (omega (arith, ints), omega (arith, ints))

-- the day begins at the base that stands at its index in the table
pub begins_at_base : (days : DayTable) (day z base : ℤ) → IsSoundDayTable days → z ≡ day -ℤ days.first → pos 0 ≤ℤ z → z <ℤ pos 1526
    → base ≡ get_or days.base (nat_abs z) (pos 0) → BeginsAt days day base
begins_at_base days day z base sound e low high at =
    let n = nat_of z low in
    let is : z ≡ pos n.0 = n.1 in
    let same : nat_abs z ≡ n.0 = ap nat_abs is in
    let count : length days.base ≡ 1526 = sound.count in
    let within : n.0 < length days.base = omega (arith, ints) in
    let there : get_or days.base n.0 (pos 0) ≡ base = sym (at ∙ ap (λ k. get_or days.base k (pos 0)) same) in
    (n.0, slice_get-get_or days.base n.0 (pos 0) within ∙ ap Some there, omega (arith, ints))

pub begins_just_there : (days : DayTable) (day base : ℤ) → BeginsAt days day base → (b : ℤ) → BeginsAt days day b ↔ (Some base ≡ Some b)
begins_just_there days day base at b = (
  λ p. ap Some (BeginsAt_unique days day base b at p),
  λ e. subst (BeginsAt days day) (same_Some base b e) at,
)

pub moment_from_base : (days : DayTable) (day : ℤ) (time : ℕ) (base moment : ℤ) → BeginsAt days day base → moment ≡ base +ℤ pos time
    → (m : ℤ) → IsMoment days day time m ↔ (Some moment ≡ Some m)
moment_from_base days day time base moment at is m = (
  λ p. ap Some (IsMoment_unique days day time moment m (base, at, is) p),
  λ e. subst (IsMoment days day time) (same_Some moment m e) (base, at, is),
)

-- the size of a day's begin
pub begin_bounds : (days : DayTable) (day base : ℤ) → IsSoundDayTable days → BeginsAt days day base → (base ≤ℤ pos 10000000000) × (pos 0 ≤ℤ (base +ℤ pos 100000))
begin_bounds days day base sound begins = base_bounds days begins.0 base sound begins.1

-- the code's numbers keep the value of a moment
pub moment_fits : (z : ℤ) → z ≤ℤ pos 20000000000 → pos 0 ≤ℤ (z +ℤ pos 100000) → to_z w64 (of_z w64 z) ≡ z
moment_fits (pos n) high low = to_z-of_z w64 (pos n) (record { sfits = omega (arith, ints) })
moment_fits (negsuc n) high low = to_z-of_z w64 (negsuc n) (record { sfits = omega (arith, ints) })
