-- The labels of a round are found: attained, in order, none covering another one of its place.
use Rattle.std.proofs.Common.{◌≡◌, ◌⊎◌, inl, inr, ℕ, suc, ◌+◌, ◌<◌, List, [], ◌∷◌, AllPairs, Contains, length, map, sym, ◌∙◌, subst, arith}
use Rattle.std.specs.Borrow.{Bor}
use Rattle.std.proofs.lemmas.Bool.{cases_order}
use Rattle.std.proofs.lemmas.Int.{ints}
use Rattle.flex_model.specs.declared.feed.Feed.{Feed}
use Rattle.flex_model.specs.declared.moment.DayTable.{DayTable}
use Rattle.flex_model.specs.declared.place.Place.{Place}
use Rattle.flex_model.specs.declared.place.Place.TheVariants.{Stop, Point}
use Rattle.flex_model.specs.declared.query.Query.{Query}
use Rattle.flex_model.specs.declared.times.Times.{Times}
use Rattle.flex_model.specs.Journey.{IsLabelPlace, Reaches}
use Rattle.flex_model.specs.LabelTable.{AreFound, IsAttained, IsLabelBefore, Label, pair_of}
use Rattle.flex_model.specs.Place.{IsPlaceBefore}
use Rattle.flex_model.specs.Triple.{CoversPair, IsPairBefore}
use Rattle.flex_model.proofs.Found.{All-from_contains, AllPairs-at, AllPairs-cons, AllPairs-first, AllPairs-nil, AllPairs-rest, Contains-first, Contains-rest}
use Rattle.label_bag.specs.Bag.{IsApart, IsBag}
use Rattle.ride_index.proofs.NumberLists.{pairs_append}
use Rattle.round_engine.specs.Attained.{IsEntry, IsSoundTask, number_of}
use Rattle.round_engine.specs.Bags.{Entry, bag_at}
use Rattle.round_engine.specs.Chain.{place_of, rides_of}
use Rattle.round_engine.specs.Flat.{label_of, labels_in}
use Rattle.round_engine.proofs.Flats.{map_of, of_labels}
use Rattle.round_engine.proofs.RoundDone.{same_place, stop_within}

pairs_map : {X Y : Type 0} (R : X → X → Type 0) (S : Y → Y → Type 0) (f : X → Y) (xs : List X)
    → ((a b : X) → Contains xs a → Contains xs b → R a b → S (f a) (f b)) → AllPairs R xs → AllPairs S (map f xs)
pairs_map R S f [] leads p = AllPairs-nil S
pairs_map R S f (a ∷ xs) leads p =
    AllPairs-cons S (f a) (map f xs)
    (All-from_contains (S (f a)) (map f xs) (λ y c.
    let found = map_of f xs y c in
    subst (S (f a)) (sym found.2) (leads a found.0 (Contains-first a xs) (Contains-rest a found.0 xs found.1) (AllPairs-first R a found.0 xs p found.1))))
    (pairs_map R S f xs (λ x y c d. leads x y (Contains-rest a x xs c) (Contains-rest a y xs d)) (AllPairs-rest R a xs p))

-- a stands before b at another place, or in the order of a bag
abbrev IsBefore : Label → Label → Type 0
IsBefore a b = IsPlaceBefore a.place b.place ⊎ ((a.place ≡ b.place) × IsApart (pair_of a) (pair_of b))

before_irreflexive : (a : Place) → IsPlaceBefore a a → ⊥
before_irreflexive (Stop a) p = omega arith
before_irreflexive (Point a) p = omega arith

-- what stands before a pair isn't covered by it
not_behind : (a b : Label) → IsPairBefore (pair_of b) (pair_of a) → CoversPair (pair_of a) (pair_of b) → ⊥
not_behind a b (inl early) covers = (let arrival = covers.arrival in omega (arith, ints))
not_behind a b (inr both) covers = (let walk = covers.walk in let less = both.1 in omega arith)

label_before : (a b : Label) → IsBefore a b → IsLabelBefore a b
label_before a b (inl place) = inl place
label_before a b (inr both) = inr (both.0, both.1.before)

module _ (feed : Bor Feed) (times : Bor Times) (days : Bor DayTable) (query : Bor Query) (sound : IsSoundTask (record { feed = feed; times = times; days = days; query = query })) where
  place_before : (a b : Place) → IsLabelPlace feed.now query.now a → IsLabelPlace feed.now query.now b
      → number_of (length feed.now.stops) a < number_of (length feed.now.stops) b → IsPlaceBefore a b
  place_before (Stop s) (Stop t) h i lt = lt
  place_before (Stop s) (Point q) h i lt = tt
  place_before (Point p) (Stop t) h i lt = (let within = stop_within (record { feed = feed; times = times; days = days; query = query }) sound t i in absurd (omega arith))
  place_before (Point p) (Point q) h i lt = absurd (omega arith)

  allowed : (k i : ℕ) (entry : Entry) → IsEntry (record { feed = feed; times = times; days = days; query = query }) k i entry → IsLabelPlace feed.now query.now (place_of entry.1.now)
  allowed k i entry is =
      let reaches = is.label.reaches in
      subst (IsLabelPlace feed.now query.now) reaches.at_place reaches.journey.place

  apart_labels : (a b : Entry) → IsApart a.0 b.0 → IsApart (pair_of (label_of a)) (pair_of (label_of b))
  apart_labels a b apart = record {
    before = apart.before;
    uncovered = λ covers. apart.uncovered (record { deadline = covers.deadline; arrival = covers.arrival; walk = covers.walk });
  }

  bag_rises : (k i : ℕ) (bag : List Entry) → ((entry : Entry) → Contains bag entry → IsEntry (record { feed = feed; times = times; days = days; query = query }) k i entry) → IsBag bag → AllPairs IsBefore (map label_of bag)
  bag_rises k i bag entries is_bag =
      pairs_map (λ a b. IsApart a.0 b.0) IsBefore label_of bag
      (λ a b c d apart.
      let first = entries a c in
      let second = entries b d in
      inr (
        same_place (record { feed = feed; times = times; days = days; query = query }) sound (place_of a.1.now) (place_of b.1.now) (allowed k i a first) (allowed k i b second) (first.number ∙ sym second.number),
        apart_labels a b apart,
      ))
      is_bag

  labels_rise : (k n : ℕ) (bags : List (List Entry)) → ((i : ℕ) (entry : Entry) → Contains (bag_at bags i) entry → IsEntry (record { feed = feed; times = times; days = days; query = query }) k (i + n) entry)
      → ((i : ℕ) → IsBag (bag_at bags i)) → AllPairs IsBefore (labels_in bags)
  labels_rise k n [] entries are_bags = AllPairs-nil IsBefore
  labels_rise k n (bag ∷ bags) entries are_bags =
      let here : 0 + n ≡ n = omega arith in
      pairs_append IsBefore (map label_of bag) (labels_in bags)
      (bag_rises k n bag (λ entry c. subst (λ i. IsEntry (record { feed = feed; times = times; days = days; query = query }) k i entry) here (entries 0 entry c)) (are_bags 0))
      (labels_rise k (suc n) bags
      (λ i entry c. (let e : suc i + n ≡ i + suc n = omega arith in subst (λ m. IsEntry (record { feed = feed; times = times; days = days; query = query }) k m entry) e (entries (suc i) entry c)))
      (λ i. are_bags (suc i)))
      (λ x y c d.
      let a = map_of label_of bag x c in
      let b = of_labels bags y d in
      let first = entries 0 a.0 a.1 in
      let second = entries (suc b.0) b.1 b.2 in
      let low = first.number in
      let high = second.number in
      let before : IsPlaceBefore (place_of a.0.1.now) (place_of b.1.1.now) =
      place_before (place_of a.0.1.now) (place_of b.1.1.now) (allowed k (0 + n) a.0 first) (allowed k (suc b.0 + n) b.1 second) (omega (arith, low, high)) in
      subst (λ l. IsBefore l y) (sym a.2) (subst (IsBefore (label_of a.0)) (sym b.3) (inl before)))

  attained : (k i : ℕ) (entry : Entry) → IsEntry (record { feed = feed; times = times; days = days; query = query }) k i entry
      → IsAttained feed.now times.now days.now query.now k (label_of entry)
  attained k i entry is =
      let rides = rides_of entry.1.now in
      let reaches : Reaches feed.now times.now days.now query.now rides (place_of entry.1.now) entry.0 =
      subst (Reaches feed.now times.now days.now query.now rides (place_of entry.1.now)) is.pair is.label.reaches in (
        rides,
        is.label.count,
        record {
          journey = reaches.journey;
          at_place = reaches.at_place;
          booked = reaches.booked;
          arrives = reaches.arrives;
          walks = reaches.walks;
        },
      )

  pub found : (k : ℕ) (bags : List (List Entry)) → ((i : ℕ) (entry : Entry) → Contains (bag_at bags i) entry → IsEntry (record { feed = feed; times = times; days = days; query = query }) k i entry)
      → ((i : ℕ) → IsBag (bag_at bags i)) → AreFound feed.now times.now days.now query.now k (labels_in bags)
  found k bags entries are_bags =
      let labels = labels_in bags in
      let rising : AllPairs IsBefore labels = labels_rise k 0 bags
      (λ i entry c. (let e : i ≡ i + 0 = omega arith in subst (λ m. IsEntry (record { feed = feed; times = times; days = days; query = query }) k m entry) e (entries i entry c))) are_bags in
      record {
        attained = All-from_contains (IsAttained feed.now times.now days.now query.now k) labels (λ label c.
            let of = of_labels bags label c in
            subst (IsAttained feed.now times.now days.now query.now k) (sym of.3) (attained k of.0 of.1 (entries of.0 of.1 of.2)));
        apart = record {
          apart = λ i j a b e f there covers. elim (cases_order i j) [
            | inl same ↦ same
            | inr (inl lt) ↦ elim (AllPairs-at IsBefore labels i j a b rising lt e f) [
              | inl place ↦ absurd (before_irreflexive b.place (subst (λ p. IsPlaceBefore p b.place) there place))
              | inr both ↦ absurd (both.1.uncovered covers)
            ]
            | inr (inr gt) ↦ elim (AllPairs-at IsBefore labels j i b a rising gt f e) [
              | inl place ↦ absurd (before_irreflexive b.place (subst (IsPlaceBefore b.place) there place))
              | inr both ↦ absurd (not_behind a b both.1.before covers)
            ]
          ];
        };
        rising = λ i j d lt within. label_before _ _ (rising i j d lt within);
      }
