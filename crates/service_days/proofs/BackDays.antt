-- Active days, counted back from a day.
use Rattle.std.proofs.Common.{◌≡◌, ◌↔◌, ℕ, zero, suc, ◌+◌, ◌-◌, ◌<◌, ◌≤◌, ℤ, pos, ◌+ℤ◌, ◌-ℤ◌, true, false, Option, Some, None, slice_get, sym, ◌∙◌, ap, subst, refl, add-suc, add-zero, le_refl, arith}
use Rattle.std.proofs.lemmas.Int.{ints}
use Rattle.std.proofs.lemmas.Option.{same_Some}
use Rattle.flex_model.specs.declared.feed.Feed.{Feed}
use Rattle.flex_model.proofs.Found.{slice_get_unique}
use Rattle.flex_model.specs.declared.service.Service.{Service}
use Rattle.flex_model.specs.ServiceDay.{is_active, active_days_before, IsBack, IsDaysBack}
use Rattle.flex_model.proofs.DayLaws.{IsDaysBack_unique}

more_days : (service : Service) (day : ℤ) (m n : ℕ) → active_days_before service day m ≤ active_days_before service day (m + n)
more_days service day m zero = rw add-zero (le_refl (active_days_before service day m))
more_days service day m (suc n) = rw add-suc (omega (arith, more_days service day m n))

-- one more day, on which the service runs
pub step_on : (service : Service) (day : ℤ) (between : ℕ) (earlier : ℤ) → earlier ≡ day -ℤ pos (suc between) → is_active service earlier ≡ true
    → active_days_before service day (between + 1) ≡ active_days_before service day between + 1
step_on service day between earlier at active =
    let here : is_active service (day -ℤ pos (suc between)) ≡ true = subst (λ d. is_active service d ≡ true) at active in
    let next : suc between ≡ between + 1 = omega arith in
    subst (λ k. active_days_before service day k ≡ active_days_before service day between + 1) next (rw here refl)

-- one more day, on which it doesn't
pub step_off : (service : Service) (day : ℤ) (between : ℕ) (earlier : ℤ) → earlier ≡ day -ℤ pos (suc between) → is_active service earlier ≡ false
    → active_days_before service day (between + 1) ≡ active_days_before service day between
step_off service day between earlier at idle =
    let here : is_active service (day -ℤ pos (suc between)) ≡ false = subst (λ d. is_active service d ≡ false) at idle in
    let next : suc between ≡ between + 1 = omega arith in
    subst (λ k. active_days_before service day k ≡ active_days_before service day between) next (rw here (add-zero (active_days_before service day between)))

is_back : (service : Service) (day : ℤ) (n between : ℕ) (earlier : ℤ) → earlier ≡ day -ℤ pos (suc between) → is_active service earlier ≡ true
    → active_days_before service day between + 1 ≡ n → between < 1500 → IsDaysBack service day n earlier
is_back service day zero between earlier at active count near = absurd (omega arith)
is_back service day (suc n) between earlier at active count near =
    record { between = between; distance = omega (arith, ints); near = omega arith; active = active; count = count }

pub found_back : (service : Service) (day : ℤ) (n between : ℕ) (asked earlier : ℤ) → asked ≡ day -ℤ pos (suc between) → earlier ≡ day -ℤ pos (suc between)
    → is_active service asked ≡ true → active_days_before service day between + 1 ≡ n → between < 1500
    → (e : ℤ) → IsDaysBack service day n e ↔ (Some earlier ≡ Some e)
found_back service day n between asked earlier at is active count near e =
    let back = is_back service day n between earlier is (subst (λ d. is_active service d ≡ true) (at ∙ sym is) active) count near in
    (λ p. ap Some (IsDaysBack_unique service day n earlier e back p), λ s. subst (IsDaysBack service day n) (same_Some earlier e s) back)

pub none_back : (service : Service) (day : ℤ) (n most : ℕ) → most ≡ 1500 → active_days_before service day most < n → (e : ℤ) → IsDaysBack service day n e → ⊥
none_back service day zero most all few e p = omega (arith, few)
none_back service day (suc n) most all few e p =
    let at : e ≡ day -ℤ pos (suc p.between) = let f = p.distance in omega (arith, ints) in
    let one = step_on service day p.between e at p.active in
    let near : p.between + 1 ≤ 1500 = p.near in
    let rest : (p.between + 1) + (most - (p.between + 1)) ≡ most = omega arith in
    let fewer = subst (λ k. active_days_before service day (p.between + 1) ≤ active_days_before service day k) rest (more_days service day (p.between + 1) (most - (p.between + 1))) in
    omega (arith, one, fewer, few, p.count)

-- days of the calendar
pub calendar_back : (feed : Feed) (day : ℤ) (n : ℕ) (b : ℤ) → b ≡ day -ℤ pos n → (e : ℤ) → IsBack feed None day n e ↔ (Some b ≡ Some e)
calendar_back feed day n b is e = (
  λ p. let at : e +ℤ pos n ≡ day = p in let same : b ≡ e = omega (arith, ints) in ap Some same,
  λ s. let same = same_Some b e s in omega (arith, ints, same),
)

-- active days of the service that has the number
pub service_back : (feed : Feed) (s : ℕ) (service : Service) (day : ℤ) (n : ℕ) (r : Option ℤ) → slice_get feed.services s ≡ Some service
    → ((e : ℤ) → IsDaysBack service day n e ↔ (r ≡ Some e)) → (e : ℤ) → IsBack feed (Some s) day n e ↔ (r ≡ Some e)
service_back feed s service day n r at days e = (
  λ p.
      let one = slice_get_unique feed.services s p.0 service p.1 at in
      (days e).0 (subst (λ x. IsDaysBack x day n e) one p.2),
  λ f. (service, at, (days e).1 f),
)
