-- Places that times and queries name, and the order of spans between places.
use Rattle.std.proofs.Common.{◌≡◌, ℕ, ◌<◌, Bool, true, false, ◌&&◌, ◌||◌, List, [], Ordering, Less, Equal, Greater, nat_cmp, length, get_or, pos, refl, sym, ◌∙◌, ap, subst, arith, inl, inr}
use Rattle.std.specs.Prelude.{if◌then◌else◌}
use Rattle.std.specs.List.{list_any}
use Rattle.std.specs.Ordering.{is_lt, ordering_then}
use Rattle.std.specs.Str.{bytes_eq}
use Rattle.std.proofs.lemmas.Bool.{and_parts, cases_order, false_from_ne_true}
use Rattle.std.proofs.lemmas.Bool.Decides.{nat_tests}
use Rattle.std.proofs.lemmas.Option.{slice_get-get_or}
use Rattle.std.proofs.lemmas.Slice.Eq.{bytes_eq-Decides}
use Rattle.flex_model.specs.declared.feed.Feed.{Feed}
use Rattle.flex_model.specs.declared.place.Place.{Place}
use Rattle.flex_model.specs.declared.place.Place.TheVariants as place
use Rattle.flex_model.specs.declared.place.Point.{Point}
use Rattle.flex_model.specs.declared.place.Stop.{Stop}
use Rattle.flex_model.specs.declared.times.Span.{Span}
use Rattle.flex_model.specs.declared.times.Times.{Times}
use Rattle.flex_model.specs.Place.{HasBoards, IsPlaceBefore, place_cmp}
use Rattle.flex_model.specs.SoundFeed.{IsSoundFeed}
use Rattle.flex_model.specs.SoundTimes.{IsInRange}
use Rattle.flex_model.specs.Times.{IsSpanBefore}
use Rattle.std.proofs.lemmas.List.{get_or-map, length-map}
use Rattle.feed_meaning.specs.FeedValue.{first_index}
use Rattle.feed_meaning.specs.QueryFaults.{is_point}
use Rattle.feed_meaning.specs.TimesFaults.{is_boarding_stop, is_stop}
use Rattle.feed_meaning.specs.TimesValue.{place_named, span_before}
use Rattle.feed_meaning.proofs.NamedStops.{any_weaker}
use Rattle.feed_meaning.proofs.Places.{place_passes}
use Rattle.feed_meaning.proofs.RisingItems.{IsOrdered}

-- ---- the order of spans

is_less : (o : Ordering) → is_lt o ≡ true → o ≡ Less
is_less Less e = refl
is_less Equal e = cc
is_less Greater e = cc

nat-equal : (x y : ℕ) → nat_cmp x y ≡ Equal → x ≡ y
nat-equal x y e = grind (arith, nat_tests)

nat-less : (x y : ℕ) → nat_cmp x y ≡ Less → x < y
nat-less x y e = grind (arith, nat_tests)

nat-greater : (x y : ℕ) → nat_cmp x y ≡ Greater → y < x
nat-greater x y e = grind (arith, nat_tests)

less-nat : (x y : ℕ) → x < y → nat_cmp x y ≡ Less
less-nat x y h = grind (arith, nat_tests)

same-nat : (x : ℕ) → nat_cmp x x ≡ Equal
same-nat x = grind (arith, nat_tests)

place-equal : (x y : Place) → place_cmp x y ≡ Equal → x ≡ y
place-equal (place.Stop a) (place.Stop b) e = ap place.Stop (nat-equal a b e)
place-equal (place.Stop a) (place.Point b) e = cc
place-equal (place.Point a) (place.Stop b) e = cc
place-equal (place.Point a) (place.Point b) e = ap place.Point (nat-equal a b e)

same-place : (x : Place) → place_cmp x x ≡ Equal
same-place (place.Stop a) = same-nat a
same-place (place.Point a) = same-nat a

place-less : (x y : Place) → place_cmp x y ≡ Less → IsPlaceBefore x y
place-less (place.Stop a) (place.Stop b) e = nat-less a b e
place-less (place.Stop a) (place.Point b) e = tt
place-less (place.Point a) (place.Stop b) e = cc
place-less (place.Point a) (place.Point b) e = nat-less a b e

place-greater : (x y : Place) → place_cmp x y ≡ Greater → IsPlaceBefore y x
place-greater (place.Stop a) (place.Stop b) e = nat-greater a b e
place-greater (place.Stop a) (place.Point b) e = cc
place-greater (place.Point a) (place.Stop b) e = tt
place-greater (place.Point a) (place.Point b) e = nat-greater a b e

less-place : (x y : Place) → IsPlaceBefore x y → place_cmp x y ≡ Less
less-place (place.Stop a) (place.Stop b) h = less-nat a b h
less-place (place.Stop a) (place.Point b) h = refl
less-place (place.Point a) (place.Stop b) h = absurd h
less-place (place.Point a) (place.Point b) h = less-nat a b h

place-through : (a b c : Place) → IsPlaceBefore a b → IsPlaceBefore b c → IsPlaceBefore a c
place-through (place.Stop a) (place.Stop b) (place.Stop c) p q = omega (arith, p, q)
place-through (place.Stop a) (place.Stop b) (place.Point c) p q = tt
place-through (place.Stop a) (place.Point b) (place.Stop c) p q = absurd q
place-through (place.Stop a) (place.Point b) (place.Point c) p q = tt
place-through (place.Point a) (place.Stop b) c p q = absurd p
place-through (place.Point a) (place.Point b) (place.Stop c) p q = absurd q
place-through (place.Point a) (place.Point b) (place.Point c) p q = omega (arith, p, q)

not-before-itself : (a : Place) → IsPlaceBefore a a → ⊥
not-before-itself (place.Stop a) p = omega (arith, p)
not-before-itself (place.Point a) p = omega (arith, p)

pub span_before_is : (x y : Span) → span_before x y ≡ true → IsSpanBefore x y
span_before_is x y e = by (place_cmp x.from y.from) refl e
  where
    by : (o : Ordering) → place_cmp x.from y.from ≡ o → is_lt (ordering_then o (place_cmp x.to y.to)) ≡ true → IsSpanBefore x y
    by Less is h = inl (place-less x.from y.from is)
    by Equal is h = inr (place-equal x.from y.from is, place-less x.to y.to (is_less (place_cmp x.to y.to) h))
    by Greater is h = cc

is_span_before : (x y : Span) → IsSpanBefore x y → span_before x y ≡ true
is_span_before x y (inl h) = ap (λ o. is_lt (ordering_then o (place_cmp x.to y.to))) (less-place x.from y.from h)
is_span_before x y (inr h) =
    ap (λ o. is_lt (ordering_then o (place_cmp x.to y.to))) (ap (λ p. place_cmp x.from p) (sym h.0) ∙ same-place x.from)
    ∙ ap is_lt (less-place x.to y.to h.1)

span-not-before-itself : (x : Span) → IsSpanBefore x x → ⊥
span-not-before-itself x (inl h) = not-before-itself x.from h
span-not-before-itself x (inr h) = not-before-itself x.to h.1

span-through : (x y z : Span) → IsSpanBefore x y → IsSpanBefore y z → IsSpanBefore x z
span-through x y z (inl h) (inl g) = inl (place-through x.from y.from z.from h g)
span-through x y z (inl h) (inr g) = inl (subst (λ p. IsPlaceBefore x.from p) g.0 h)
span-through x y z (inr h) (inl g) = inl (subst (λ p. IsPlaceBefore p z.from) (sym h.0) g)
span-through x y z (inr h) (inr g) = inr (h.0 ∙ g.0, place-through x.to y.to z.to h.1 g.1)

pub span_irreflexive : (x : Span) → span_before x x ≡ false
span_irreflexive x = false_from_ne_true (span_before x x) (λ e. span-not-before-itself x (span_before_is x x e))

pub span_transitive : (x y z : Span) → span_before x y ≡ true → span_before y z ≡ true → span_before x z ≡ true
span_transitive x y z e f = is_span_before x z (span-through x y z (span_before_is x y e) (span_before_is y z f))

-- two spans that don't join the same places are in order
pub spans_in_order : (x y : Span) → (x.from ≡ y.from → x.to ≡ y.to → ⊥) → IsOrdered span_before span_irreflexive span_transitive x y
spans_in_order x y differ = by (place_cmp x.from y.from) (place_cmp x.to y.to) refl refl
  where
    by : (o p : Ordering) → place_cmp x.from y.from ≡ o → place_cmp x.to y.to ≡ p → IsOrdered span_before span_irreflexive span_transitive x y
    by Less p is is' = inl (is_span_before x y (inl (place-less x.from y.from is)))
    by Greater p is is' = inr (is_span_before y x (inl (place-greater x.from y.from is)))
    by Equal Less is is' = inl (is_span_before x y (inr (place-equal x.from y.from is, place-less x.to y.to is')))
    by Equal Equal is is' = absurd (differ (place-equal x.from y.from is) (place-equal x.to y.to is'))
    by Equal Greater is is' = inr (is_span_before y x (inr (sym (place-equal x.from y.from is), place-greater x.to y.to is')))

-- ---- named places

-- the item at the place of a text has that text
pub text_there : {X : Type 0} (of : X → List ℕ) (xs : List X) (text : List ℕ) (d : X) → list_any (λ x. bytes_eq text (of x)) xs ≡ true → text ≡ of (get_or xs (first_index (λ x. bytes_eq text (of x)) xs) d)
text_there of xs text d here = (bytes_eq-Decides text (of (get_or xs (first_index (λ x. bytes_eq text (of x)) xs) d))).0 ((place_passes (λ x. bytes_eq text (of x)) xs here).1 d)

same-there : {X : Type 0} (of : X → List ℕ) (xs : List X) (a b : List ℕ) (d : X) → list_any (λ x. bytes_eq a (of x)) xs ≡ true → list_any (λ x. bytes_eq b (of x)) xs ≡ true
    → first_index (λ x. bytes_eq a (of x)) xs ≡ first_index (λ x. bytes_eq b (of x)) xs → a ≡ b
same-there of xs a b d in_a in_b e = text_there of xs a d in_a ∙ ap (λ k. of (get_or xs k d)) e ∙ sym (text_there of xs b d in_b)

no_stop : Stop
no_stop = record { id = []; at = record { lon = pos 0; lat = pos 0 }; boards = false }

no_point : Point
no_point = record { id = []; at = record { lon = pos 0; lat = pos 0 } }

stops-same : (i j : ℕ) → place.Stop i ≡ place.Stop j → i ≡ j
stops-same i j e = cc

points-same : (i j : ℕ) → place.Point i ≡ place.Point j → i ≡ j
points-same i j e = cc

not-alike : (i j : ℕ) → place.Stop i ≡ place.Point j → ⊥
not-alike i j e = cc

module _ (feed : Feed) (times : Times) where
  -- a text is the id of a stop or of a point
  abbrev pub IsKnownPlace : List ℕ → Type 0
  IsKnownPlace text = (is_stop feed text || is_point times text) ≡ true

  abbrev stop_at : List ℕ → ℕ
  stop_at text = first_index (λ stop. bytes_eq text stop.id) feed.stops

  abbrev point_at : List ℕ → ℕ
  point_at text = first_index (λ point. bytes_eq text point.id) times.points

  pub place_in_range : (text : List ℕ) → IsKnownPlace text → IsInRange feed times (place_named feed times.points text)
  place_in_range text known = by (is_stop feed text) refl known
    where
      by : (b : Bool) → is_stop feed text ≡ b → (b || is_point times text) ≡ true → IsInRange feed times (if b then place.Stop (stop_at text) else place.Point (point_at text))
      by true is h = (place_passes (λ stop. bytes_eq text stop.id) feed.stops is).0
      by false is h = (place_passes (λ point. bytes_eq text point.id) times.points h).0

  -- texts that name one place are one text
  pub one_place : (a b : List ℕ) → IsKnownPlace a → IsKnownPlace b → place_named feed times.points a ≡ place_named feed times.points b → a ≡ b
  one_place a b known_a known_b e = by (is_stop feed a) (is_stop feed b) refl refl known_a known_b e
    where
      by : (s t : Bool) → is_stop feed a ≡ s → is_stop feed b ≡ t → (s || is_point times a) ≡ true → (t || is_point times b) ≡ true
          → (if s then place.Stop (stop_at a) else place.Point (point_at a)) ≡ (if t then place.Stop (stop_at b) else place.Point (point_at b)) → a ≡ b
      by true true is is' h h' e = same-there (λ stop. stop.id) feed.stops a b no_stop is is' (stops-same (stop_at a) (stop_at b) e)
      by true false is is' h h' e = absurd (not-alike (stop_at a) (point_at b) e)
      by false true is is' h h' e = absurd (not-alike (stop_at b) (point_at a) (sym e))
      by false false is is' h h' e = same-there (λ point. point.id) times.points a b no_point h h' (points-same (point_at a) (point_at b) e)

-- ---- stops of a sound feed

module _ (feed : Feed) (sound : IsSoundFeed feed) where
  one-stop : (i j : ℕ) (d : Stop) → i < length feed.stops → j < length feed.stops → (get_or feed.stops i d).id ≡ (get_or feed.stops j d).id → i ≡ j
  one-stop i j d low low' e = elim (cases_order i j) [
    | inl h ↦ h
    | inr (inl lt) ↦ absurd (apart i j lt low' e)
    | inr (inr lt) ↦ absurd (apart j i lt low (sym e))
  ]
    where
      apart : (i j : ℕ) → i < j → j < length feed.stops → (get_or feed.stops i d).id ≡ (get_or feed.stops j d).id → ⊥
      apart i j lt low e =
          let size = length-map feed.stops (λ stop. stop.id) in
          sound.stops.ids.distinct i j [] lt (omega (arith, size, low))
          (get_or-map (λ stop. stop.id) feed.stops i d [] (omega (arith, lt, low)) ∙ e ∙ sym (get_or-map (λ stop. stop.id) feed.stops j d [] low))

  -- the stop with a text that some stop where one can board has
  pub boarding_stop : (text : List ℕ) → is_boarding_stop feed text ≡ true → (is_stop feed text ≡ true) × HasBoards feed (first_index (λ stop. bytes_eq text stop.id) feed.stops)
  boarding_stop text h =
      let here = any_weaker (λ stop. bytes_eq text stop.id && stop.boards) (λ stop. bytes_eq text stop.id) feed.stops (λ stop e. (and_parts (bytes_eq text stop.id) stop.boards e).0) h in
      let k = first_index (λ stop. bytes_eq text stop.id) feed.stops in
      let m = first_index (λ stop. bytes_eq text stop.id && stop.boards) feed.stops in
      let low = (place_passes (λ stop. bytes_eq text stop.id) feed.stops here).0 in
      let found = place_passes (λ stop. bytes_eq text stop.id && stop.boards) feed.stops h in
      let parts = and_parts (bytes_eq text (get_or feed.stops m no_stop).id) (get_or feed.stops m no_stop).boards (found.1 no_stop) in
      let same : k ≡ m = one-stop k m no_stop low found.0 (sym (text_there (λ stop. stop.id) feed.stops text no_stop here) ∙ (bytes_eq-Decides text (get_or feed.stops m no_stop).id).0 parts.0) in
      (here, (get_or feed.stops k no_stop, slice_get-get_or feed.stops k no_stop low, ap (λ n. (get_or feed.stops n no_stop).boards) same ∙ parts.1))
