-- The table of active days, as it grows service by service.
use Rattle.std.proofs.Common.{◌≡◌, inl, inr, ℕ, ◌+◌, ◌-◌, ◌*◌, ◌<◌, ◌≤◌, pos, ℤ, ◌+ℤ◌, Bool, false, IsTrue, List, [], ◌++◌, Some, get_or, length, slice_get, refl, sym, ◌∙◌, ap, subst, append_assoc, negsuc, ◌-ℤ◌, ◌≤ℤ◌, ◌<ℤ◌, ◌↔◌, ◌∷◌, zero, suc, arith}
use Rattle.std.proofs.lemmas.Bool.{cases_order}
use Rattle.std.proofs.lemmas.Int.{ints}
use Rattle.std.proofs.lemmas.List.{get_or_append_left, get_or-append-add}
use Rattle.std.proofs.lemmas.List.FromFn.{get_or-map-range_with_len, length-map-range_with_len, map-range_with_len_more}
use Rattle.std.proofs.lemmas.Option.{get_or_from_slice_get, same_Some, slice_get-get_or, slice_get_within}
use Rattle.std.proofs.Common.{length-append}
use Rattle.std.specs.Prelude.{nat_abs}
use Rattle.flex_model.specs.declared.feed.Feed.{Feed}
use Rattle.flex_model.specs.declared.moment.DayTable.{DayTable}
use Rattle.flex_model.specs.declared.service.Service.{Service}
use Rattle.flex_model.specs.declared.trip.Trip.{Trip}
use Rattle.flex_model.specs.ServiceDay.{IsTravelDay, is_active}
use Rattle.flex_model.specs.SoundQuery.{IsSoundDayTable}
use Rattle.service_days.specs.Running.{IsRunning}
use Rattle.ride_index.specs.declared.active_days.ActiveDays.{ActiveDays}
use Rattle.flex_model.proofs.Found.{slice_get_unique}
use Rattle.ride_index.specs.ActiveDays.{AreActiveDays, active_flags}

-- an index in range has an item
pub item_at : {X : Type 0} (xs : List X) (i : ℕ) → i < length xs → (x : X) × (slice_get xs i ≡ Some x)
item_at [] i lt = absurd (omega arith)
item_at (x ∷ xs) zero lt = (x, refl)
item_at (x ∷ xs) (suc i) lt = item_at xs i (omega arith)

-- the flags of the first services
pub record AreFirst (feed : Feed) (days : DayTable) (n : ℕ) (flags : List Bool) : Type 0 where
  pub size : length flags ≡ 22 * n
  pub each : (s k : ℕ) (service : Service) → s < n → slice_get feed.services s ≡ Some service → k < 22
      → slice_get flags (22 * s + k) ≡ Some (is_active service (days.first +ℤ pos (1504 + k)))

pub no_services : (feed : Feed) (days : DayTable) → AreFirst feed days 0 []
no_services feed days = record { size = refl; each = λ s k service lt is few. absurd (omega arith) }

pub active_flags_more : (service : Service) (first : ℤ) (n : ℕ) → active_flags service first (n + 1) ≡ active_flags service first n ++ is_active service (first +ℤ pos n) ∷ []
unfolding active_flags
active_flags_more service first n = map-range_with_len_more (λ k. is_active service (first +ℤ pos k)) 0 n n (omega arith)

length-active_flags : (service : Service) (first : ℤ) (n : ℕ) → length (active_flags service first n) ≡ n
unfolding active_flags
length-active_flags service first n = length-map-range_with_len (λ k. is_active service (first +ℤ pos k)) 0 n

get_or-active_flags : (service : Service) (first : ℤ) (n k : ℕ) → k < n → get_or (active_flags service first n) k false ≡ is_active service (first +ℤ pos k)
unfolding active_flags
get_or-active_flags service first n k lt = get_or-map-range_with_len (λ i. is_active service (first +ℤ pos i)) 0 n k k false lt (omega arith)

get_left : (xs ys : List Bool) (i : ℕ) → i < length xs → slice_get (xs ++ ys) i ≡ slice_get xs i
get_left xs ys i lt =
    let size : length (xs ++ ys) ≡ length xs + length ys = length-append xs ys in
    slice_get-get_or (xs ++ ys) i false (omega arith)
    ∙ ap Some (get_or_append_left xs ys false i lt) ∙ sym (slice_get-get_or xs i false lt)

get_right : (xs ys : List Bool) (n i : ℕ) → length xs ≡ n → i < length ys → slice_get (xs ++ ys) (n + i) ≡ slice_get ys i
get_right xs ys n i is lt =
    let size : length (xs ++ ys) ≡ length xs + length ys = length-append xs ys in
    slice_get-get_or (xs ++ ys) (n + i) false (omega arith)
    ∙ ap Some (ap (λ m. get_or (xs ++ ys) (m + i) false) (sym is) ∙ get_or-append-add xs ys i false)
    ∙ sym (slice_get-get_or ys i false lt)

pub next_service : (feed : Feed) (days : DayTable) (n many : ℕ) (service : Service) (first : ℤ) (flags : List Bool) → slice_get feed.services n ≡ Some service
    → many ≡ 22 → first ≡ days.first +ℤ pos 1504 → AreFirst feed days n flags → AreFirst feed days (n + 1) (flags ++ active_flags service first many)
next_service feed days n many service first flags at of_days is before =
    let new = active_flags service first many in
    let count : length (active_flags service first many) ≡ many = length-active_flags service first many in
    record {
      size = omega (arith, before.size, length-append flags (active_flags service first many), count, of_days);
      each = λ s k other lt of few. elim (cases_order s n) [
        | inl e ↦ (
            let same : other ≡ service = slice_get_unique feed.services n other service (subst (λ i. slice_get feed.services i ≡ Some other) e of) at in
            let place : 22 * s + k ≡ 22 * n + k = ap (λ i. 22 * i + k) e in
            let day : first +ℤ pos k ≡ days.first +ℤ pos (1504 + k) = omega (arith, ints, is) in
            ap (slice_get (flags ++ new)) place
            ∙ get_right flags new (22 * n) k before.size (omega (arith, count, of_days, few))
            ∙ slice_get-get_or new k false (omega (arith, count, of_days, few))
            ∙ ap Some (get_or-active_flags service first many k (omega (arith, of_days, few))
            ∙ ap (is_active service) day ∙ ap (λ x. is_active x (days.first +ℤ pos (1504 + k))) (sym same)))
        | inr (inl less) ↦ (
            get_left flags new (22 * s + k) (omega (arith, before.size, less, few)) ∙ before.each s k other less of few)
        | inr (inr more) ↦ absurd (omega arith)
      ];
    }

pub all_services : (feed : Feed) (days : DayTable) (n : ℕ) (flags : List Bool) → length feed.services ≤ n → AreFirst feed days n flags
    → (s k : ℕ) (service : Service) → slice_get feed.services s ≡ Some service → k < 22
    → slice_get flags (22 * s + k) ≡ Some (is_active service (days.first +ℤ pos (1504 + k)))
all_services feed days n flags size each s k service of few =
    let within = slice_get_within feed.services s service of in
    each.each s k service (omega (arith, within, size)) of few

-- the number of a travel day
pub number_is : (z day first : ℤ) → z ≡ (day -ℤ first) -ℤ pos 1504 → pos 0 ≤ℤ z → z <ℤ pos 22
    → (k : ℕ) → (Some (nat_abs z) ≡ Some k) ↔ ((k < 22) × (day ≡ first +ℤ pos (1504 + k)))
number_is (pos n) day first e low high k = (
  λ same. let is : n ≡ k = same_Some n k same in (omega (arith, ints), omega (arith, ints)),
  λ h. let on = h.1 in ap Some (omega (arith, ints)),
)
number_is (negsuc n) day first e low high k = absurd (omega (arith, ints))

-- one more flag
pub one_flag_more : (service : Service) (first day : ℤ) (n : ℕ) (before flags after : List Bool) (flag : Bool) → flags ≡ before ++ active_flags service first n
    → after ≡ flags ++ flag ∷ [] → day ≡ first +ℤ pos n → flag ≡ is_active service day → after ≡ before ++ active_flags service first (n + 1)
one_flag_more service first day n before flags after flag so_far pushed on is =
    let said : flag ≡ is_active service (first +ℤ pos n) = is ∙ ap (is_active service) on in
    pushed ∙ ap (λ xs. xs ++ flag ∷ []) so_far ∙ append_assoc before (active_flags service first n) (flag ∷ [])
    ∙ ap (λ b. before ++ (active_flags service first n ++ b ∷ [])) said ∙ ap (λ xs. before ++ xs) (sym (active_flags_more service first n))

-- what the table's flag says of a trip
module _ (feed : Feed) (days : DayTable) (table : ActiveDays) (trip : Trip) (day : ℤ) (k : ℕ) (right : AreActiveDays feed days table) (sound : IsSoundDayTable days)
    (service : trip.service < length feed.services) (low : k < 22) (on : day ≡ days.first +ℤ pos (1504 + k)) where
  flag_is : slice_get table.flags (22 * trip.service + k) ≡ Some (is_active (item_at feed.services trip.service service).0 (days.first +ℤ pos (1504 + k)))
  flag_is = right trip.service k (item_at feed.services trip.service service).0 (item_at feed.services trip.service service).1 low

  pub flag_within : 22 * trip.service + k < length table.flags
  flag_within = slice_get_within table.flags (22 * trip.service + k) _ flag_is

  travels : IsTravelDay days day
  travels = let count : length days.base ≡ 1526 = sound.count in (1504 + k, omega arith, omega arith, on)

  pub runs_by_flag : (flags : List Bool) → flags ≡ table.flags → IsTrue (get_or flags (22 * trip.service + k) false) ↔ IsRunning feed days trip day
  runs_by_flag flags e =
      let its = item_at feed.services trip.service service in
      let read : get_or flags (22 * trip.service + k) false ≡ is_active its.0 (days.first +ℤ pos (1504 + k)) =
      ap (λ xs. get_or xs (22 * trip.service + k) false) e ∙ get_or_from_slice_get table.flags (22 * trip.service + k) _ false flag_is in
      let same : is_active its.0 (days.first +ℤ pos (1504 + k)) ≡ is_active its.0 day = ap (is_active its.0) (sym on) in (
        λ t. record { on_travel_day = travels; runs = (its.0, its.1, sym (read ∙ same) ∙ t) },
        λ r. read ∙ same ∙ ap (λ s. is_active s day) (sym (slice_get_unique feed.services trip.service r.runs.0 its.0 r.runs.1 its.1)) ∙ r.runs.2,
      )

-- a travel day has a number
pub has_number : (days : DayTable) (day : ℤ) → IsSoundDayTable days → IsTravelDay days day → (k : ℕ) × (k < 22) × (day ≡ days.first +ℤ pos (1504 + k))
has_number days day sound t =
    let count : length days.base ≡ 1526 = sound.count in
    let within : t.0 < length days.base = t.1 in
    let late : length days.base ≤ t.0 + 22 = t.2 in
    let is : day ≡ days.first +ℤ pos t.0 = t.3 in
    let same : 1504 + (t.0 - 1504) ≡ t.0 = omega arith in
    (t.0 - 1504, omega arith, is ∙ ap (λ n. days.first +ℤ pos n) (sym same))

-- the first travel day, from what the code says of it
pub first_is : (days : DayTable) (first : ℤ) → IsSoundDayTable days → ((day : ℤ) → IsTravelDay days day ↔ ((first ≤ℤ day) × (day ≤ℤ (first +ℤ pos 21)))) → first ≡ days.first +ℤ pos 1504
first_is days first sound says =
    let count : length days.base ≡ 1526 = sound.count in
    let least = (says (days.first +ℤ pos 1504)).0 (1504, omega arith, omega arith, refl) in
    let one = has_number days first sound ((says first).1 (omega (arith, ints), omega (arith, ints))) in
    let low : first ≤ℤ (days.first +ℤ pos 1504) = least.0 in
    let is : first ≡ days.first +ℤ pos (1504 + one.0) = one.2 in
    omega (arith, ints)
