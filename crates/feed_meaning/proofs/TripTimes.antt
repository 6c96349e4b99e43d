-- The times of the records of a trip don't fall, also those of records that have none of their own.
use Rattle.std.proofs.Common.{◌≡◌, ℕ, zero, suc, ◌+◌, ◌-◌, ◌*◌, ◌/◌, ◌<◌, ◌≤◌, Bool, true, false, not, ◌&&◌, ◌||◌, List, All, AllPairs, Contains, Option, None, Some, get_or, refl, sym, ◌∙◌, ap, subst, arith, ◌⊎◌, inl, inr}
use Rattle.std.specs.Prelude.{if◌then◌else◌, count_by, is_none, unwrap_or}
use Rattle.std.specs.List.{filter, list_any}
use Rattle.std.specs.Option.{option_and_then, option_or}
use Rattle.std.specs.Str.{bytes_eq}
use Rattle.std.proofs.Math.Nat.{div-mul-le_self, mul-le-mul_left}
use Rattle.std.proofs.lemmas.Bool.{and_from, and_left, and_parts, and_right, cases_Bool, false_from_ne_true, false≢true, ltb-false, not-false, not-true, not_from_false, or_parts, true≢false}
use Rattle.std.proofs.lemmas.List.Elements.{All-contains_itself, All-filter}
use Rattle.std.proofs.lemmas.Nat.{le-div}
use Rattle.std.proofs.lemmas.Slice.Eq.{bytes_eq-Decides}
use Rattle.flex_model.specs.declared.fault.InputFile.TheVariants.{StopTimes}
use Rattle.flex_model.specs.declared.trip.Timing.TheVariants as timing
use Rattle.flex_model.specs.SoundFeed.{DoesNotFall}
use Rattle.feed_tables.specs.Refusals.{is_given}
use Rattle.field_text.specs.Grammars.{time}
use Rattle.feed_meaning.specs.FeedLinks.{Tables, arrival, departure, is_before, is_end, is_timed, is_untimed, nearest_after, nearest_before}
use Rattle.feed_meaning.specs.FeedRules.{has_time, has_window, is_later}
use Rattle.feed_meaning.specs.FeedValue.{count_between, filled, filled_between, rising, seconds, time_between, timing_of}
use Rattle.feed_meaning.specs.Rules.{Values, stand}
use Rattle.feed_meaning.proofs.KeptFeeds.{KeepsFeedRules}
use Rattle.feed_meaning.proofs.Nearest.{ComesDown, IsNearest, all_reached, any_item, contains_filter, filter_contains, find_item, item_any, none_passes, some_nearest}
use Rattle.feed_meaning.proofs.RisingItems.{compared, count_less, rising_all}
use Rattle.feed_meaning.proofs.TripOrder.{AreOrdered, before_irreflexive, before_is, before_transitive, records_of, records_ordered, records_rise}
use Rattle.feed_meaning.proofs.TripRows.{KeptRecord, between_low, kept_record, own_times_rise, share_low}

-- ---- numbers

-- a larger share is no less
share_rises : (x k k' n : ℕ) → k ≤ k' → 0 < n → x * k / n ≤ x * k' / n
share_rises x k k' n le some =
    let self = div-mul-le_self (x * k) n in
    let more = mul-le-mul_left x le in
    le-div (x * k / n) (x * k') n some (omega (arith, self, more))

no_later : (o o' : Option ℕ) (n : ℕ) → stand is_later o o' ≡ false → o' ≡ Some n → unwrap_or o 0 ≤ unwrap_or o' 0
no_later None o' n kept is = omega arith
no_later (Some m) None n kept is = cc
no_later (Some m) (Some k) n kept is = ltb-false k m kept

-- a text that is given and not bad has a value
some_of_two : (a b : List ℕ) (oa ob : Option ℕ) → time a ≡ oa → time b ≡ ob → (is_given a || is_given b) ≡ true → (is_given a && is_none oa) ≡ false → (is_given b && is_none ob) ≡ false
    → (n : ℕ) × (option_or oa ob ≡ Some n)
some_of_two a b (Some m) ob ea eb some ka kb = (m, refl)
some_of_two a b None (Some n) ea eb some ka kb = (n, refl)
some_of_two a b None None ea eb some ka kb = absurd (by (is_given a) (is_given b) some ka kb)
  where
    by : (ga gb : Bool) → (ga || gb) ≡ true → (ga && true) ≡ false → (gb && true) ≡ false → ⊥
    by true gb some ka kb = true≢false ka
    by false true some ka kb = true≢false kb
    by false false some ka kb = false≢true some

-- the order the other way round
abbrev after : Values → Values → Bool
after a b = is_before b a

after_irreflexive : (a : Values) → after a a ≡ false
after_irreflexive a = before_irreflexive a

after_transitive : (a b c : Values) → after a b ≡ true → after b c ≡ true → after a c ≡ true
after_transitive a b c e f = before_transitive c b a f e

module _ (tables : Tables) (kept : KeepsFeedRules tables) where
  abbrev rs : List Values
  rs = tables StopTimes

  abbrev timed : List Values
  timed = filter is_timed rs

  abbrev windowless : List Values
  windowless = filter (λ s. not (has_window s)) rs

  kept_at : (x : Values) → Contains rs x → KeptRecord tables x
  kept_at x c = subst (KeptRecord tables) c.2 (kept_record tables kept c.0 x c.1)

  -- two records of one trip are one, or one comes before the other
  together : (x y : Values) → Contains rs x → Contains rs y → x "trip_id" ≡ y "trip_id" → (x ≡ y) ⊎ AreOrdered x y
  together x y cx cy same =
      let trip = x "trip_id" in
      compared is_before before_irreflexive before_transitive (records_of rs kept.stop_times.alone trip) (records_ordered rs kept.stop_times.alone trip) x y
      (filter_contains (λ s. bytes_eq trip (s "trip_id")) rs x cx ((bytes_eq-Decides trip (x "trip_id")).1 refl))
      (filter_contains (λ s. bytes_eq trip (s "trip_id")) rs y cy ((bytes_eq-Decides trip (y "trip_id")).1 same))

  timed_in : (t : Values) → Contains timed t → Contains rs t × (is_timed t ≡ true)
  timed_in t c = contains_filter is_timed rs t c

  abbrev arrives : Values → ℕ
  arrives r = unwrap_or (arrival r) 0

  abbrev departs : Values → ℕ
  departs r = unwrap_or (departure r) 0

  timed-arrival : (t : Values) → Contains timed t → (n : ℕ) × (arrival t ≡ Some n)
  timed-arrival t c =
      let i = timed_in t c in
      let k = kept_at t i.0 in
      some_of_two (t "arrival_time") (t "departure_time") (time (t "arrival_time")) (time (t "departure_time")) refl refl (and_parts (not (has_window t)) (has_time t) i.1).1 k.arrive k.depart

  own_rise : (t : Values) → Contains timed t → arrives t ≤ departs t
  own_rise t c = own_times_rise tables t (kept_at t (timed_in t c).0)

  -- ---- timed records

  abbrev test_before : Values → Values → Bool
  test_before r a = is_before a r && not (list_any (λ b. is_before a b && is_before b r) timed)

  abbrev test_after : Values → Values → Bool
  test_after r a = is_before r a && not (list_any (λ b. is_before r b && is_before b a) timed)

  before-passes : (r p : Values) → Contains timed p → test_before r p ≡ true → IsNearest is_before before_irreflexive before_transitive timed r p
  before-passes r p c e =
      let parts = and_parts (is_before p r) (not (list_any (λ b. is_before p b && is_before b r) timed)) e in
      record {
        there = c;
        before = parts.0;
        none = λ t ct a b. none_passes (λ u. is_before p u && is_before u r) timed t (not-true (list_any (λ u. is_before p u && is_before u r) timed) parts.1) ct (and_from (is_before p t) (is_before t r) a b);
      }

  passes-before : (r p : Values) → IsNearest is_before before_irreflexive before_transitive timed r p → test_before r p ≡ true
  passes-before r p near = and_from (is_before p r) (not (list_any (λ b. is_before p b && is_before b r) timed)) near.before
      (not_from_false (list_any (λ b. is_before p b && is_before b r) timed) (false_from_ne_true (list_any (λ b. is_before p b && is_before b r) timed) (λ e.
      let t = any_item (λ b. is_before p b && is_before b r) timed e in
      let parts = and_parts (is_before p t.0) (is_before t.0 r) t.2 in
      near.none t.0 t.1 parts.0 parts.1)))

  after-passes : (r p : Values) → Contains timed p → test_after r p ≡ true → IsNearest after after_irreflexive after_transitive timed r p
  after-passes r p c e =
      let parts = and_parts (is_before r p) (not (list_any (λ b. is_before r b && is_before b p) timed)) e in
      record {
        there = c;
        before = parts.0;
        none = λ t ct a b. none_passes (λ u. is_before r u && is_before u p) timed t (not-true (list_any (λ u. is_before r u && is_before u p) timed) parts.1) ct (and_from (is_before r t) (is_before t p) b a);
      }

  passes-after : (r p : Values) → IsNearest after after_irreflexive after_transitive timed r p → test_after r p ≡ true
  passes-after r p near = and_from (is_before r p) (not (list_any (λ b. is_before r b && is_before b p) timed)) near.before
      (not_from_false (list_any (λ b. is_before r b && is_before b p) timed) (false_from_ne_true (list_any (λ b. is_before r b && is_before b p) timed) (λ e.
      let t = any_item (λ b. is_before r b && is_before b p) timed e in
      let parts = and_parts (is_before r t.0) (is_before t.0 p) t.2 in
      near.none t.0 t.1 parts.1 parts.0)))

  -- the trips of two records before a third
  one-trip : (a b r : Values) → is_before a r ≡ true → is_before b r ≡ true → a "trip_id" ≡ b "trip_id"
  one-trip a b r e f = (before_is a r e).trip ∙ sym (before_is b r f).trip

  one-trip-after : (a b r : Values) → is_before r a ≡ true → is_before r b ≡ true → a "trip_id" ≡ b "trip_id"
  one-trip-after a b r e f = sym (before_is r a e).trip ∙ (before_is r b f).trip

  -- two nearest records before one are one
  one_nearest : (r p p' : Values) → IsNearest is_before before_irreflexive before_transitive timed r p → IsNearest is_before before_irreflexive before_transitive timed r p' → p ≡ p'
  one_nearest r p p' near near' = elim (together p p' (timed_in p near.there).0 (timed_in p' near'.there).0 (one-trip p p' r near.before near'.before)) [
    | inl e ↦ e
    | inr (inl h) ↦ absurd (near.none p' near'.there h near'.before)
    | inr (inr h) ↦ absurd (near'.none p near.there h near.before)
  ]

  one_nearest_after : (r p p' : Values) → IsNearest after after_irreflexive after_transitive timed r p → IsNearest after after_irreflexive after_transitive timed r p' → p ≡ p'
  one_nearest_after r p p' near near' = elim (together p p' (timed_in p near.there).0 (timed_in p' near'.there).0 (one-trip-after p p' r near.before near'.before)) [
    | inl e ↦ e
    | inr (inl h) ↦ absurd (near'.none p near.there h near.before)
    | inr (inr h) ↦ absurd (near.none p' near'.there h near'.before)
  ]

  -- the nearest timed record before a timed one leaves by its arrival
  next-rises : (a b : Values) → Contains timed b → IsNearest is_before before_irreflexive before_transitive timed b a → departs a ≤ arrives b
  next-rises a b cb near =
      let i = timed_in b cb in
      let k = kept_at b i.0 in
      let found = find_item (test_before b) timed (item_any (test_before b) timed a near.there (passes-before b a near)) in
      let same : found.0 ≡ a = one_nearest b found.0 a (before-passes b found.0 found.2 found.3) near in
      let is : nearest_before timed b ≡ Some a = found.1 ∙ ap Some same in
      let kept_b : stand is_later (departure a) (arrival b) ≡ false =
      sym (ap (λ o. stand is_later (option_and_then departure o) (arrival b)) is) ∙ sym (ap (λ t. t && stand is_later (option_and_then departure (nearest_before timed b)) (arrival b)) i.1) ∙ k.earlier in
      let n = timed-arrival b cb in
      no_later (departure a) (arrival b) n.0 kept_b n.1

  timed-rise : (n : ℕ) (a b : Values) → Contains timed a → Contains timed b → is_before a b ≡ true → count_by (λ t. is_before a t && is_before t b) timed < n → departs a ≤ arrives b
  timed-rise zero a b ca cb less low = absurd (omega (arith, low))
  timed-rise (suc n) a b ca cb less low = elim (cases_Bool (list_any (λ t. is_before a t && is_before t b) timed)) [
    | inl some ↦
        let next = any_item (λ t. is_before a t && is_before t b) timed some in
        let t = next.0 in
        let parts = and_parts (is_before a t) (is_before t b) next.2 in
        let left = count_less (λ u. is_before a u && is_before u t) (λ u. is_before a u && is_before u b) timed t
        (λ u h. let p = and_parts (is_before a u) (is_before u t) h in and_from (is_before a u) (is_before u b) p.0 (before_transitive u t b p.1 parts.1))
        next.1 (and_right (is_before a t) (is_before t t) (before_irreflexive t)) next.2 in
        let right = count_less (λ u. is_before t u && is_before u b) (λ u. is_before a u && is_before u b) timed t
        (λ u h. let p = and_parts (is_before t u) (is_before u b) h in and_from (is_before a u) (is_before u b) (before_transitive a t u parts.0 p.0) p.1)
        next.1 (and_left (is_before t t) (is_before t b) (before_irreflexive t)) next.2 in
        let first = timed-rise n a t ca next.1 parts.0 (omega (arith, left, low)) in
        let second = timed-rise n t b next.1 cb parts.1 (omega (arith, right, low)) in
        let own = own_rise t next.1 in
        omega (arith, first, second, own)
    | inr none ↦ next-rises a b cb (record { there = ca; before = less; none = λ t ct la lb. none_passes (λ u. is_before a u && is_before u b) timed t none ct (and_from (is_before a t) (is_before t b) la lb) })
  ]

  timed_rise : (a b : Values) → Contains timed a → Contains timed b → is_before a b ≡ true → departs a ≤ arrives b
  timed_rise a b ca cb less = timed-rise (count_by (λ t. is_before a t && is_before t b) timed + 1) a b ca cb less (omega arith)

  -- ---- untimed records

  -- an untimed record stands between others without window
  between-others : (x : Values) → Contains rs x → is_untimed x ≡ true → (list_any (λ s. is_before s x) windowless ≡ true) × (list_any (λ s. is_before x s) windowless ≡ true)
  between-others x c un =
      let k = kept_at x c in
      let inside : is_end rs x ≡ false = sym (ap (λ u. u && is_end rs x) un) ∙ k.untimed in
      let parts = or_parts (not (list_any (λ s. is_before s x) windowless)) (not (list_any (λ s. is_before x s) windowless)) inside in
      (not-false (list_any (λ s. is_before s x) windowless) parts.0, not-false (list_any (λ s. is_before x s) windowless) parts.1)

  timed-or-not : (s : Values) → Contains windowless s → Contains timed s ⊎ (Contains rs s × (is_untimed s ≡ true))
  timed-or-not s c =
      let w = contains_filter (λ s. not (has_window s)) rs s c in
      elim (cases_Bool (has_time s)) [
        | inl has ↦ inl (filter_contains is_timed rs s w.0 (and_from (not (has_window s)) (has_time s) w.1 has))
        | inr not_has ↦ inr (w.0, and_from (not (has_window s)) (not (has_time s)) w.1 (not_from_false (has_time s) not_has))
      ]

  comes-down : ComesDown is_before before_irreflexive before_transitive windowless timed
  comes-down s c = elim (timed-or-not s c) [
    | inl h ↦ inl h
    | inr h ↦ let next = any_item (λ w. is_before w s) windowless (between-others s h.0 h.1).0 in inr (next.0, next.1, next.2)
  ]

  comes-down-after : ComesDown after after_irreflexive after_transitive windowless timed
  comes-down-after s c = elim (timed-or-not s c) [
    | inl h ↦ inl h
    | inr h ↦ let next = any_item (λ w. is_before s w) windowless (between-others s h.0 h.1).1 in inr (next.0, next.1, next.2)
  ]

  -- the timed neighbours of a record
  record HasNeighbours (x : Values) : Type 0 where
    former : Values
    latter : Values
    is_former : nearest_before timed x ≡ Some former
    is_latter : nearest_after timed x ≡ Some latter
    near_former : IsNearest is_before before_irreflexive before_transitive timed x former
    near_latter : IsNearest after after_irreflexive after_transitive timed x latter

  neighbours : (x : Values) → Contains rs x → is_untimed x ≡ true → HasNeighbours x
  neighbours x c un =
      let others = between-others x c un in
      let s = any_item (λ s. is_before s x) windowless others.0 in
      let s' = any_item (λ s. is_before x s) windowless others.1 in
      let t = all_reached is_before before_irreflexive before_transitive windowless timed comes-down s.0 s.1 in
      let t' = all_reached after after_irreflexive after_transitive windowless timed comes-down-after s'.0 s'.1 in
      let less : is_before t.0 x ≡ true = elim t.2 [ inl e ↦ ap (λ a. is_before a x) e ∙ s.2 | inr h ↦ before_transitive t.0 s.0 x h s.2 ] in
      let more : is_before x t'.0 ≡ true = elim t'.2 [ inl e ↦ ap (λ a. is_before x a) e ∙ s'.2 | inr h ↦ before_transitive x s'.0 t'.0 s'.2 h ] in
      let p = some_nearest is_before before_irreflexive before_transitive timed x t.0 t.1 less in
      let q = some_nearest after after_irreflexive after_transitive timed x t'.0 t'.1 more in
      let found = find_item (test_before x) timed (item_any (test_before x) timed p.0 p.1.there (passes-before x p.0 p.1)) in
      let found' = find_item (test_after x) timed (item_any (test_after x) timed q.0 q.1.there (passes-after x q.0 q.1)) in
      record {
        former = found.0;
        latter = found'.0;
        is_former = found.1;
        is_latter = found'.1;
        near_former = before-passes x found.0 found.2 found.3;
        near_latter = after-passes x found'.0 found'.2 found'.3;
      }

  filled_is : (x : Values) (h : HasNeighbours x) → filled rs x ≡ time_between windowless h.former h.latter x
  filled_is x h = ap (λ o. filled_between windowless o (nearest_after timed x) x) h.is_former ∙ ap (λ o. filled_between windowless (Some h.former) o x) h.is_latter

  neighbours-rise : (x : Values) (h : HasNeighbours x) → departs h.former ≤ arrives h.latter
  neighbours-rise x h = timed_rise h.former h.latter h.near_former.there h.near_latter.there (before_transitive h.former x h.latter h.near_former.before h.near_latter.before)

  filled_after : (x : Values) (h : HasNeighbours x) → departs h.former ≤ filled rs x
  filled_after x h = let e = filled_is x h in omega (arith, e)

  filled_before : (x : Values) (h : HasNeighbours x) → filled rs x ≤ arrives h.latter
  filled_before x h =
      let e = filled_is x h in
      let leaves = departs h.former in
      let reaches = arrives h.latter in
      let k = count_between windowless h.former x in
      let n = count_between windowless h.former h.latter in
      let le : k ≤ n = between_low windowless h.former h.latter x h.near_latter.before in
      let share = share_low (reaches - leaves) (k + 1) (n + 1) (omega arith) (omega arith) in
      let rise = neighbours-rise x h in
      omega (arith, e, share, rise)

  -- a timed record before an untimed one
  timed-untimed : (a x : Values) → Contains timed a → HasNeighbours x → is_before a x ≡ true → departs a ≤ filled rs x
  timed-untimed a x ca h less =
      let p = h.former in
      let low = filled_after x h in
      elim (together a p (timed_in a ca).0 (timed_in p h.near_former.there).0 (one-trip a p x less h.near_former.before)) [
        | inl e ↦ let same : departs a ≡ departs p = ap departs e in omega (arith, same, low)
        | inr (inl before) ↦
            let rise = timed_rise a p ca h.near_former.there before in
            let own = own_rise p h.near_former.there in
            omega (arith, rise, own, low)
        | inr (inr before) ↦ absurd (h.near_former.none a ca before less)
      ]

  -- an untimed record before a timed one
  untimed-timed : (x b : Values) → HasNeighbours x → Contains timed b → is_before x b ≡ true → filled rs x ≤ arrives b
  untimed-timed x b h cb less =
      let q = h.latter in
      let high = filled_before x h in
      elim (together q b (timed_in q h.near_latter.there).0 (timed_in b cb).0 (one-trip-after q b x h.near_latter.before less)) [
        | inl e ↦ let same : arrives q ≡ arrives b = ap arrives e in omega (arith, same, high)
        | inr (inl before) ↦
            let rise = timed_rise q b h.near_latter.there cb before in
            let own = own_rise q h.near_latter.there in
            omega (arith, rise, own, high)
        | inr (inr before) ↦ absurd (h.near_latter.none b cb before less)
      ]

  -- no record is both
  not-both : (t : Values) → is_timed t ≡ true → is_untimed t ≡ true → ⊥
  not-both t e f = true≢false (sym (and_parts (not (has_window t)) (has_time t) e).1 ∙ not-true (has_time t) (and_parts (not (has_window t)) (not (has_time t)) f).1)

  -- two untimed records with no timed one between have the same neighbours
  untimed-untimed : (x y : Values) → Contains rs x → Contains rs y → is_untimed x ≡ true → is_untimed y ≡ true → HasNeighbours x → HasNeighbours y → is_before x y ≡ true → filled rs x ≤ filled rs y
  untimed-untimed x y cx cy ux uy hx hy less =
      let q = hx.latter in
      let cq = hx.near_latter.there in
      let high = filled_before x hx in
      elim (together q y (timed_in q cq).0 cy (one-trip-after q y x hx.near_latter.before less)) [
        | inl e ↦ absurd (not-both y (ap is_timed (sym e) ∙ (timed_in q cq).1) uy)
        | inr (inl before) ↦
            let rise = timed-untimed q y cq hy before in
            let own = own_rise q cq in
            omega (arith, rise, own, high)
        | inr (inr before) ↦ same-neighbours (λ t ct a b. hx.near_latter.none t ct (before_transitive t y q b before) a)
      ]
    where
      same-neighbours : ((t : Values) → Contains timed t → is_before x t ≡ true → is_before t y ≡ true → ⊥) → filled rs x ≤ filled rs y
      same-neighbours none_between =
          let p = hx.former in
          let near : IsNearest is_before before_irreflexive before_transitive timed y p = record {
            there = hx.near_former.there;
            before = before_transitive p x y hx.near_former.before less;
            none = λ t ct a b. elim (together t x (timed_in t ct).0 cx (one-trip t x y b less)) [
              | inl e ↦ not-both x (ap is_timed (sym e) ∙ (timed_in t ct).1) ux
              | inr (inl h) ↦ hx.near_former.none t ct a h
              | inr (inr h) ↦ none_between t ct h b
            ];
          } in
          let q = hy.latter in
          let near' : IsNearest after after_irreflexive after_transitive timed x q = record {
            there = hy.near_latter.there;
            before = before_transitive x y q less hy.near_latter.before;
            none = λ t ct a b. elim (together t y (timed_in t ct).0 cy (one-trip-after t y x b less)) [
              | inl e ↦ not-both y (ap is_timed (sym e) ∙ (timed_in t ct).1) uy
              | inr (inl h) ↦ none_between t ct b h
              | inr (inr h) ↦ hy.near_latter.none t ct a h
            ];
          } in
          let same_former : hx.former ≡ hy.former = one_nearest y hx.former hy.former near hy.near_former in
          let same_latter : hx.latter ≡ hy.latter = one_nearest_after x hx.latter hy.latter hx.near_latter near' in
          let ex = filled_is x hx in
          let ey : filled rs y ≡ time_between windowless hx.former hx.latter y =
          filled_is y hy ∙ ap (λ f. time_between windowless f hy.latter y) (sym same_former) ∙ ap (λ l. time_between windowless hx.former l y) (sym same_latter) in
          let k : count_between windowless hx.former x ≤ count_between windowless hx.former y = between_low windowless hx.former y x less in
          let share = share_rises (arrives hx.latter - departs hx.former) (count_between windowless hx.former x + 1) (count_between windowless hx.former y + 1) (count_between windowless hx.former hx.latter + 1) (omega arith) (omega arith) in
          omega (arith, ex, ey, share)

  -- ---- all records of a trip

  fall-not : (a b : Values) → Contains rs a → Contains rs b → is_before a b ≡ true → DoesNotFall (timing_of tables a) (timing_of tables b)
  fall-not a b ca cb less = by (has_window a) (has_time a) (has_window b) (has_time b) refl refl refl refl
    where
      timed-one : (r : Values) → Contains rs r → has_window r ≡ false → has_time r ≡ true → Contains timed r
      timed-one r c w t = filter_contains is_timed rs r c (and_from (not (has_window r)) (has_time r) (not_from_false (has_window r) w) t)

      untimed-one : (r : Values) → has_window r ≡ false → has_time r ≡ false → is_untimed r ≡ true
      untimed-one r w t = and_from (not (has_window r)) (not (has_time r)) (not_from_false (has_window r) w) (not_from_false (has_time r) t)

      by : (wa ta wb tb : Bool) → has_window a ≡ wa → has_time a ≡ ta → has_window b ≡ wb → has_time b ≡ tb → DoesNotFall
          (if wa then timing.Window (seconds (a "start_pickup_drop_off_window")) (seconds (a "end_pickup_drop_off_window"))
          else if ta then timing.Times (arrives a) (departs a)
          else timing.Times (filled rs a) (filled rs a))
          (if wb then timing.Window (seconds (b "start_pickup_drop_off_window")) (seconds (b "end_pickup_drop_off_window"))
          else if tb then timing.Times (arrives b) (departs b)
          else timing.Times (filled rs b) (filled rs b))
      by true ta wb tb ewa eta ewb etb = tt
      by false true true tb ewa eta ewb etb = tt
      by false false true tb ewa eta ewb etb = tt
      by false true false true ewa eta ewb etb = timed_rise a b (timed-one a ca ewa eta) (timed-one b cb ewb etb) less
      by false true false false ewa eta ewb etb = timed-untimed a b (timed-one a ca ewa eta) (neighbours b cb (untimed-one b ewb etb)) less
      by false false false true ewa eta ewb etb = untimed-timed a b (neighbours a ca (untimed-one a ewa eta)) (timed-one b cb ewb etb) less
      by false false false false ewa eta ewb etb =
          untimed-untimed a b ca cb (untimed-one a ewa eta) (untimed-one b ewb etb) (neighbours a ca (untimed-one a ewa eta)) (neighbours b cb (untimed-one b ewb etb)) less

  records-there : (trip : List ℕ) → All (Contains rs) (rising is_before (records_of rs kept.stop_times.alone trip))
  records-there trip = rising_all is_before (Contains rs) (records_of rs kept.stop_times.alone trip) (All-filter (λ s. bytes_eq trip (s "trip_id")) (Contains rs) rs (All-contains_itself rs))

  -- the times of a trip's records in rising order don't fall
  pub times_rise : (trip : List ℕ) → AllPairs (λ a b. DoesNotFall (timing_of tables a) (timing_of tables b)) (rising is_before (records_of rs kept.stop_times.alone trip))
  times_rise trip i j d lt low =
      let sorted = rising is_before (records_of rs kept.stop_times.alone trip) in
      fall-not (get_or sorted i d) (get_or sorted j d) (records-there trip i d (omega arith)) (records-there trip j d low) (records_rise rs kept.stop_times.alone trip i j d lt low)
