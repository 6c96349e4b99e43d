-- Moments of a service day, where its begin or the moments of its times were looked up.
use Rattle.std.proofs.Common.{◌≡◌, ◌↔◌, IsTrue, Bool, false, ℕ, ◌*◌, ◌<◌, ◌≤◌, ℤ, pos, ◌+ℤ◌, ◌≤ℤ◌, Option, Some, None, is_some, refl, sym, ap, ◌∙◌, subst, arith}
use Rattle.std.proofs.lemmas.Bool.{false≢true}
use Rattle.std.proofs.lemmas.Option.{none-some, same_Some}
use Rattle.flex_model.specs.declared.moment.DayTable.{DayTable}
use Rattle.flex_model.specs.declared.ride.Ride.{Ride}
use Rattle.flex_model.specs.Ride.{ArrivesInWindow, IsShiftedMoment, LeavesInWindow}
use Rattle.flex_model.specs.ServiceDay.{BeginsAt, IsMoment}

-- a moment so much later was found just where it isn't past the limit
pub is_found : (later limit : ℤ) (found : Option ℤ) → ((m : ℤ) → ((m ≡ later) × (m ≤ℤ limit)) ↔ (found ≡ Some m)) → (test : Bool) → test ≡ is_some found
    → IsTrue test ↔ (later ≤ℤ limit)
is_found later limit None after test is = (
  λ t. absurd (false≢true (sym is ∙ t)),
  λ by. absurd (none-some later ((after later).0 (refl, by))),
)
is_found later limit (Some m) after test is = (
  λ t. let both = (after m).1 refl in subst (λ z. z ≤ℤ limit) both.0 both.1,
  λ by. is,
)

-- what was looked up of a day is told of the day itself
pub of_day : (days : DayTable) (day asked : ℤ) (same : asked ≡ day) (time : ℕ) (found : Option ℤ) → ((m : ℤ) → IsMoment days asked time m ↔ (found ≡ Some m))
    → (m : ℤ) → IsMoment days day time m ↔ (found ≡ Some m)
of_day days day asked same time found moments m = subst (λ d. IsMoment days d time m ↔ (found ≡ Some m)) same (moments m)

pub of_begin : (days : DayTable) (day asked : ℤ) (same : asked ≡ day) (found : Option ℤ) → ((base : ℤ) → BeginsAt days asked base ↔ (found ≡ Some base))
    → (base : ℤ) → BeginsAt days day base ↔ (found ≡ Some base)
of_begin days day asked same found begins base = subst (λ d. BeginsAt days d base ↔ (found ≡ Some base)) same (begins base)

pub of_time : (then told base asked : ℤ) → told ≡ then → asked ≡ base → (found : Option ℕ) → ((time : ℕ) → ((told ≡ asked +ℤ pos time) × (time < 4294967296)) ↔ (found ≡ Some time))
    → (time : ℕ) → ((then ≡ base +ℤ pos time) × (time < 4294967296)) ↔ (found ≡ Some time)
of_time then told base asked e f found since time =
    subst (λ m. ((m ≡ base +ℤ pos time) × (time < 4294967296)) ↔ (found ≡ Some time)) e
    (subst (λ b. ((told ≡ b +ℤ pos time) × (time < 4294967296)) ↔ (found ≡ Some time)) f (since time))

-- the moments of a time of the day were looked up
module _ (days : DayTable) (day by : ℤ) (time : ℕ) (then : ℤ) (found : Option ℤ) (moments : (m : ℤ) → IsMoment days day time m ↔ (found ≡ Some m)) where
  pub no_moment : found ≡ None → IsTrue false ↔ IsShiftedMoment days day by time then
  no_moment none = (
    λ t. absurd (false≢true t),
    λ h. absurd (none-some h.0 (sym none ∙ (moments h.0).0 h.1)),
  )

  pub just_moment : (scheduled : ℤ) → found ≡ Some scheduled → (test : Bool) → IsTrue test ↔ (then ≡ scheduled +ℤ by) → IsTrue test ↔ IsShiftedMoment days day by time then
  just_moment scheduled some test is = (
    λ t. (scheduled, (moments scheduled).1 some, is.0 t),
    λ h.
        let same : scheduled ≡ h.0 = same_Some scheduled h.0 (sym some ∙ (moments h.0).0 h.1) in
        is.1 (h.2 ∙ ap (λ m. m +ℤ by) (sym same)),
  )

pub of_moment : (days : DayTable) (day asked by told : ℤ) (time : ℕ) (then given : ℤ) → asked ≡ day → told ≡ by → given ≡ then → (test : Bool)
    → IsTrue test ↔ IsShiftedMoment days asked told time given → IsTrue test ↔ IsShiftedMoment days day by time then
of_moment days day asked by told time then given e f g test is =
    subst (λ d. IsTrue test ↔ IsShiftedMoment days d by time then) e
    (subst (λ s. IsTrue test ↔ IsShiftedMoment days asked s time then) f (subst (λ m. IsTrue test ↔ IsShiftedMoment days asked told time m) g is))

-- the moments of the ends of a window were looked up
module _ (days : DayTable) (ride : Ride) (start end : ℕ) where
  pub no_start : (found : Option ℤ) → ((m : ℤ) → IsMoment days ride.day start m ↔ (found ≡ Some m)) → found ≡ None → IsTrue false ↔ ArrivesInWindow days ride start end
  no_start found moments none = (
    λ t. absurd (false≢true t),
    λ h. absurd (none-some h.0 (sym none ∙ (moments h.0).0 h.2)),
  )

  pub no_end : (found : Option ℤ) → ((m : ℤ) → IsMoment days ride.day end m ↔ (found ≡ Some m)) → found ≡ None → IsTrue false ↔ ArrivesInWindow days ride start end
  no_end found moments none = (
    λ t. absurd (false≢true t),
    λ h. absurd (none-some h.1 (sym none ∙ (moments h.1).0 h.3)),
  )

  module _ (first : Option ℤ) (starts : (m : ℤ) → IsMoment days ride.day start m ↔ (first ≡ Some m)) (earliest : ℤ) (is_start : first ≡ Some earliest) where
    pub too_early : ((earliest ≤ℤ ride.arrives) → ⊥) → IsTrue false ↔ ArrivesInWindow days ride start end
    too_early early = (
      λ t. absurd (false≢true t),
      λ h.
          let same : earliest ≡ h.0 = same_Some earliest h.0 (sym is_start ∙ (starts h.0).0 h.2) in
          absurd (early (subst (λ m. m ≤ℤ ride.arrives) (sym same) h.4)),
    )

    pub by_the_end : (second : Option ℤ) → ((m : ℤ) → IsMoment days ride.day end m ↔ (second ≡ Some m)) → (latest : ℤ) → second ≡ Some latest
        → earliest ≤ℤ ride.arrives → (test : Bool) → IsTrue test ↔ (ride.arrives ≤ℤ latest) → IsTrue test ↔ ArrivesInWindow days ride start end
    by_the_end second ends latest is_end late test is = (
      λ t. (earliest, latest, (starts earliest).1 is_start, (ends latest).1 is_end, late, is.0 t),
      λ h.
          let same : latest ≡ h.1 = same_Some latest h.1 (sym is_end ∙ (ends h.1).0 h.3) in
          is.1 (subst (λ m. ride.arrives ≤ℤ m) (sym same) h.5),
    )

  -- the begin of the day was looked up
  pub no_begin : (found : Option ℤ) → ((base : ℤ) → BeginsAt days ride.day base ↔ (found ≡ Some base)) → found ≡ None → IsTrue false ↔ LeavesInWindow days ride start end
  no_begin found begins none = (
    λ t. absurd (false≢true t),
    λ h. absurd (none-some h.3.0 (sym none ∙ (begins h.3.0).0 h.3.1)),
  )

  -- the day begins at this moment, and the time of its departure was looked up
  module _ (day : Option ℤ) (begins : (base : ℤ) → BeginsAt days ride.day base ↔ (day ≡ Some base)) (base : ℤ) (is_base : day ≡ Some base) (end_fits : end < 4294967296)
      (found : Option ℕ) (since : (time : ℕ) → ((ride.departs ≡ base +ℤ pos time) × (time < 4294967296)) ↔ (found ≡ Some time)) where
    -- a minute of the window at which the ride leaves is its time
    its_time : (h : LeavesInWindow days ride start end) → found ≡ Some (60 * h.0)
    its_time h =
        let same : base ≡ h.3.0 = same_Some base h.3.0 (sym is_base ∙ (begins h.3.0).0 h.3.1) in
        let before : 60 * h.0 ≤ end = h.2 in
        (since (60 * h.0)).0 (h.3.2 ∙ ap (λ b. b +ℤ pos (60 * h.0)) (sym same), omega arith)

    pub no_time : found ≡ None → IsTrue false ↔ LeavesInWindow days ride start end
    no_time none = (
      λ t. absurd (false≢true t),
      λ h. absurd (none-some (60 * h.0) (sym none ∙ its_time h)),
    )

    pub on_a_minute : (time : ℕ) → found ≡ Some time → (test : Bool)
        → IsTrue test ↔ ((minute : ℕ) × (start ≤ 60 * minute) × (60 * minute ≤ end) × (time ≡ 60 * minute))
        → IsTrue test ↔ LeavesInWindow days ride start end
    on_a_minute time is test minute = (
      λ t.
          let m = minute.0 t in
          let then = (since time).1 is in
          (m.0, m.1, m.2, (base, (begins base).1 is_base, then.0 ∙ ap (λ s. base +ℤ pos s) m.3)),
      λ h. minute.1 (h.0, h.1, h.2, same_Some time (60 * h.0) (sym is ∙ its_time h)),
    )
