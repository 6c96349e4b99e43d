-- Offers of rides, but for some that an earlier point covers.
use Rattle.std.proofs.Common.{◌≡◌, ◌↔◌, ◌⊎◌, inl, inr, ℕ, ◌≤ℤ◌, List, [], ◌++◌, Contains, append_assoc, length, sym, ◌∙◌, ap, subst, arith}
use Rattle.std.proofs.lemmas.Int.{ints}
use Rattle.std.proofs.lemmas.List.Elements.{Contains-append_cases, Contains-append_left, Contains-append_right}
use Rattle.flex_model.specs.declared.moment.Deadline.{Deadline}
use Rattle.flex_model.specs.declared.moment.Deadline.TheVariants.{Never}
use Rattle.flex_model.specs.declared.place.Place.TheVariants as place
use Rattle.flex_model.specs.declared.ride.Ride.{Ride}
use Rattle.flex_model.specs.Place.{IsStop}
use Rattle.flex_model.proofs.Found.{none_contained}
use Rattle.ride_index.specs.Boarded.{AreOffersBut, GainsBut, GainsOffersBut, IsCoveredBefore, IsNeedless}
use Rattle.ride_index.specs.declared.boarded.BoardingPoint.{BoardingPoint}
use Rattle.ride_index.specs.declared.boarded.Carried.{Carried}
use Rattle.ride_index.specs.declared.offered_run.OfferedRun.{OfferedRun}
use Rattle.ride_index.specs.declared.wanted.Wanted.{Wanted}
use Rattle.ride_index.specs.Legs.{IsTimedOffer}
use Rattle.ride_index.specs.OfferedRuns.{AreOffersOf, GainsOffersOf, IsSoundWanted, IsWantedRide}
use Rattle.ride_index.specs.TimedRides.{IsTimedRide}
use Rattle.ride_index.proofs.FromPlace.{FromGroups, FromStops, FromZones, by_spot, by_timings}
use Rattle.ride_index.proofs.OfferLists.{covered_among}

but_no_offers : (P R : Ride → Deadline → Type 0) → ((ride : Ride) (deadline : Deadline) → P ride deadline → ⊥) → AreOffersBut P R []
but_no_offers P R none = record { each = λ run k c lt. absurd (none_contained run c); whole = λ ride deadline p. absurd (none ride deadline p) }

pub gains_but_none : (P R : Ride → Deadline → Type 0) (xs : List OfferedRun) → ((ride : Ride) (deadline : Deadline) → P ride deadline → ⊥) → xs ≡ xs ++ [] → GainsOffersBut P R xs xs
gains_but_none P R xs none same = ([], same, but_no_offers P R none)

-- some but for some, and then all of others
pub gains_but_more : (P Q S R : Ride → Deadline → Type 0) (before found after : List OfferedRun) → GainsOffersBut P R before found → GainsOffersOf Q found after
    → ((ride : Ride) (deadline : Deadline) → (P ride deadline ⊎ Q ride deadline) ↔ S ride deadline) → GainsOffersBut S R before after
gains_but_more P Q S R before found after first second both = (
  first.0 ++ second.0,
  second.1 ∙ ap (λ xs. xs ++ second.0) first.1 ∙ append_assoc before first.0 second.0,
  record {
    each = λ run k c lt. elim (Contains-append_cases first.0 second.0 run c) [
      | inl old ↦ (both _ _).0 (inl (first.2.each run k old lt))
      | inr new ↦ (both _ _).0 (inr (second.2.each run k new lt))
    ];
    whole = λ ride deadline s. elim ((both ride deadline).1 s) [
      | inl p ↦ elim (first.2.whole ride deadline p) [
        | inl covered ↦ inl (covered_among first.0 (first.0 ++ second.0) ride deadline (λ run c. Contains-append_left first.0 second.0 run c) covered)
        | inr r ↦ inr r
      ]
      | inr q ↦ inl (covered_among second.0 (first.0 ++ second.0) ride deadline (λ run c. Contains-append_right first.0 second.0 run c) (second.2.whole ride deadline q))
    ];
  },
)

module _ (wanted : Wanted) (sound : IsSoundWanted wanted) (points : List BoardingPoint) (carried : Carried) where
  abbrev pub IsBefore : Ride → Deadline → Type 0
  IsBefore ride deadline = IsCoveredBefore wanted points carried ride deadline

  -- a ride without a booking covers the needless one, whatever the deadline of that one is
  covered_before : (ride : Ride) (deadline : Deadline) → IsWantedRide wanted ride deadline → IsNeedless wanted.feed.now wanted.times.now wanted.days.now points carried ride
      → IsCoveredBefore wanted points carried ride deadline
  covered_before ride deadline w n = record {
    point = n.point;
    among = n.among;
    as_good = n.as_good;
    other = n.other;
    its = Never;
    is_wanted = record {
      permitted = n.permitted;
      bookable = λ rule booking. absurd (n.free rule booking);
      booked = n.free;
      boards = n.boards;
      alights = subst (λ p. IsStop p ⊎ (p ≡ wanted.destination)) (sym n.alights) w.alights;
      leaves = n.leaves;
      arrives = subst (λ m. m ≤ℤ wanted.limit) (sym n.arrives) w.arrives;
    };
    alights = n.alights;
    booked = tt;
    arrives = (let e = n.arrives in omega (arith, ints, e));
  }

  pub needed_timed : (stop : ℕ) (rides : List Ride) (before after : List OfferedRun) → wanted.place ≡ place.Stop stop
      → ((ride : Ride) → Contains rides ride → IsTimedRide wanted.feed.now wanted.times.now wanted.days.now stop wanted.earliest wanted.limit ride)
      → ((ride : Ride) → IsTimedRide wanted.feed.now wanted.times.now wanted.days.now stop wanted.earliest wanted.limit ride
      → Contains rides ride ⊎ IsNeedless wanted.feed.now wanted.times.now wanted.days.now points carried ride)
      → GainsOffersOf (λ ride deadline. IsWantedRide wanted ride deadline × Contains rides ride) before after
      → GainsOffersBut (IsTimedOffer wanted) IsBefore before after
  needed_timed stop rides before after here each whole g = (
    g.0,
    g.1,
    record {
      each = λ run k c lt. (let p = g.2.each run k c lt in let t = each _ p.1 in (p.0, t.boards, t.alights));
      whole = λ x d h.
          elim (whole x (record { permitted = h.0.permitted; at_stop = h.0.boards ∙ here; boards = h.1; alights = h.2; leaves = h.0.leaves; arrives = h.0.arrives })) [
            | inl c ↦ inl (g.2.whole x d (h.0, c))
            | inr n ↦ inr (covered_before x d h.0 n)
          ];
    },
  )

  -- each wanted ride is one of the four sorts
  pub all_offers : (before one two three after : List OfferedRun) → before ≡ [] → GainsOffersBut (IsTimedOffer wanted) IsBefore before one → GainsOffersOf (FromStops wanted sound) one two
      → GainsOffersOf (FromGroups wanted sound (length wanted.feed.now.groups)) two three → GainsOffersOf (FromZones wanted sound (length wanted.feed.now.zones)) three after
      → AreOffersBut (IsWantedRide wanted) IsBefore after
  all_offers before one two three after empty timed stops groups zones =
      let S = FromStops wanted sound in
      let G = FromGroups wanted sound (length wanted.feed.now.groups) in
      let Z = FromZones wanted sound (length wanted.feed.now.zones) in
      let first = gains_but_more (IsTimedOffer wanted) S (λ r d. IsTimedOffer wanted r d ⊎ S r d) IsBefore before one two timed stops (λ r d. (λ h. h, λ h. h)) in
      let second = gains_but_more (λ r d. IsTimedOffer wanted r d ⊎ S r d) G (λ r d. (IsTimedOffer wanted r d ⊎ S r d) ⊎ G r d) IsBefore before two three first groups (λ r d. (λ h. h, λ h. h)) in
      let whole = gains_but_more (λ r d. (IsTimedOffer wanted r d ⊎ S r d) ⊎ G r d) Z (IsWantedRide wanted) IsBefore before three after second zones
      (λ r d. (
        λ h. elim h [
          | inl (inl (inl t)) ↦ t.0
          | inl (inl (inr s)) ↦ s.0.0
          | inl (inr g) ↦ g.0.0
          | inr z ↦ z.0.0
        ],
        λ w. elim (by_timings wanted sound r d w) [
          | inl t ↦ inl (inl (inl t))
          | inr b ↦ elim (by_spot wanted sound r d b) [
            | inl s ↦ inl (inl (inr (b, s)))
            | inr (inl g) ↦ inl (inr (b, g))
            | inr (inr z) ↦ inr (b, z)
          ]
        ],
      )) in
      subst (AreOffersBut (IsWantedRide wanted) IsBefore) (sym (whole.1 ∙ ap (λ xs. xs ++ whole.0) empty)) whole.2

-- where nothing was boarded before, all are covered by the runs
pub none_before : (wanted : Wanted) (points : List BoardingPoint) (carried : Carried) (runs : List OfferedRun) → points ≡ []
    → AreOffersBut (IsWantedRide wanted) (IsCoveredBefore wanted points carried) runs → AreOffersOf (IsWantedRide wanted) runs
none_before wanted points carried runs none o = record {
  each = o.each;
  whole = λ ride deadline w. elim (o.whole ride deadline w) [
    | inl covered ↦ covered
    | inr before ↦ absurd (none_contained before.point (subst (λ ps. Contains ps before.point) none before.among))
  ];
}

-- a list that began empty has what was added alone
module _ (P R : Ride → Type 0) (xs ys before : List Ride) (empty : before ≡ []) (same : ys ≡ xs) (new : GainsBut P R before xs) where
  pub only_added : (ride : Ride) → Contains ys ride → P ride
  only_added ride c = elim (new.each ride (subst (λ l. Contains l ride) same c)) [
    | inl old ↦ absurd (none_contained ride (subst (λ l. Contains l ride) empty old))
    | inr p ↦ p
  ]

  pub all_added : (ride : Ride) → P ride → Contains ys ride ⊎ R ride
  all_added ride p = elim (new.whole ride p) [
    | inl c ↦ inl (subst (λ l. Contains l ride) (sym same) c)
    | inr r ↦ inr r
  ]
