-- Walks of journeys, for a query that asks for walking and for one that doesn't, and triples that differ in the walk.
use Rattle.std.proofs.Common.{◌≡◌, ℕ, ◌+◌, pos, ◌+ℤ◌, ◌≤ℤ◌, true, [], ◌∷◌, refl, sym, ◌∙◌, ap, subst, inl, inr, lit≤, lit<, arith}
use Rattle.std.proofs.lemmas.Int.{ints}
use Rattle.std.proofs.lemmas.List.Elements.{All-cons}
use Rattle.std.proofs.lemmas.Option.{same_Some}
use Rattle.flex_model.specs.declared.answer.Triple.{Triple}
use Rattle.flex_model.specs.declared.change.ChangeKind.{ChangeKind}
use Rattle.flex_model.specs.declared.change.ChangeKind.TheVariants.{Least}
use Rattle.flex_model.specs.declared.feed.Feed.{Feed}
use Rattle.flex_model.specs.declared.moment.Deadline.TheVariants.{Never}
use Rattle.flex_model.specs.declared.place.Place.TheVariants as place
use Rattle.flex_model.specs.declared.query.Query.{Query}
use Rattle.flex_model.specs.declared.ride.Ride.{Ride}
use Rattle.flex_model.specs.declared.times.Times.{Times}
use Rattle.flex_model.specs.Change.{HasChange, HasEgress}
use Rattle.flex_model.specs.Journey.{Attains, ChangesOnFoot, IsPermittedJourney, IsUsable, StartsOnFoot, WalksTo, change_walk, counted}
use Rattle.flex_model.specs.LabelTable.{IsLabelBefore, Label, pair_of}
use Rattle.flex_model.specs.Triple.{Covers, CoversPair, IsTripleBefore}
use Rattle.flex_model.proofs.Examples.Changes.{attained as attained_at_rest, by_rule, change, days, feed, first_free, first_permitted, first_ride, from_origin, journey as journey_at_rest, never, on_foot, on_foot_only, query, rides, second_free, second_permitted, second_ride, times, triple}
use Rattle.flex_model.proofs.Found.{All-one, only_contained}
use Rattle.flex_model.proofs.Walks.{uncounted_nothing}

-- from M to D as before, asking for walking
abbrev pub asking : Query
asking = record (query 60) { walking = true }

journey : IsPermittedJourney feed times days asking rides
journey = record {
  itinerary = record {
    few = lit≤ tt;
    usable = All-cons (IsUsable feed times days asking) first_ride (second_ride ∷ [])
        (record { permitted = first_permitted; bookable = λ rule h. absurd (first_free rule h) })
        (All-one (IsUsable feed times days asking) second_ride (record { permitted = second_permitted; bookable = λ rule h. absurd (second_free rule h) }));
    first = first_ride;
    is_first = refl;
    starts = (0, from_origin, omega (arith, ints));
    changes = journey_at_rest.itinerary.changes;
  };
  last = second_ride;
  is_last = refl;
  seconds = 1200;
  egress = on_foot;
  ends = omega (arith, ints);
}

-- the change between two stops takes 300 seconds on foot
walks : WalksTo feed times asking rides 1 300
walks = (
  first_ride,
  second_ride,
  0,
  300,
  refl,
  refl,
  (first_ride, refl, (0, from_origin, omega (arith, ints), refl)),
  (300, by_rule, omega (arith, ints), refl),
  refl,
)

-- and the egress 1,200 more
attained : Attains feed times days asking rides (record triple { walk = 1500 })
unfolding journey
attained = record {
  journey = journey;
  deadline = never;
  arrival = refl;
  transfers = refl;
  walked = 300;
  walks = walks;
  walk = refl;
}

-- so it has no triple without a walk
not_at_rest : Attains feed times days asking rides triple → ⊥
not_at_rest a =
    let last = same_Some a.journey.last second_ride (sym a.journey.is_last) in
    let egress = on_foot_only a.journey.seconds (subst (λ (ride : Ride). HasEgress times (query 60) ride.alight a.journey.seconds) last a.journey.egress) in
    let walk : 0 ≡ a.walked + a.journey.seconds = a.walk in
    omega arith

-- the one way to change from N to O
by_rule_only : (seconds : ℕ) → HasChange feed (place.Stop 1) (place.Stop 2) seconds → seconds ≡ 300
by_rule_only seconds (inl h) =
    let e = only_contained change (record { from = 1; to = 2; kind = Least seconds }) h in
    seconds_of (Least seconds) seconds 300 refl (ap (λ c. c.kind) e)
  where
    seconds_of : (kind : ChangeKind) (a b : ℕ) → kind ≡ Least a → kind ≡ Least b → a ≡ b
    seconds_of kind a b e f = let same : Least a ≡ Least b = sym e ∙ f in cc
by_rule_only seconds (inr h) = let e = h.0 in absurd (omega arith)

not_without_change : WalksTo feed times asking rides 1 0 → ⊥
not_without_change w =
    let record { 0 = earlier; 1 = ride; 2 = before; 3 = walk; 4 = at; 5 = here; 6 = so_far; 7 = changes; 8 = sum } = w in
    let first : earlier ≡ first_ride = same_Some earlier first_ride (sym at) in
    let second : ride ≡ second_ride = same_Some ride second_ride (sym here) in
    let on_foot = subst (λ (r : Ride). ChangesOnFoot feed asking r.alight r.arrives second_ride walk) first
    (subst (λ (r : Ride). ChangesOnFoot feed asking earlier.alight earlier.arrives r walk) second changes) in
    let seconds = by_rule_only on_foot.0 on_foot.1 in
    let is_walk : walk ≡ on_foot.0 = on_foot.3 in
    omega arith

-- for the query that doesn't ask, the same journey has a triple without a walk, and no other
at_rest : Attains feed times days (query 60) rides triple
at_rest = attained_at_rest

not_on_foot : Attains feed times days (query 60) rides (record triple { walk = 1500 }) → ⊥
not_on_foot a = let none = (uncounted_nothing feed times days (query 60) rides refl).0 (record triple { walk = 1500 }) a in omega arith

-- a walk counts where the query asks for it
counts : counted asking 300 ≡ 300
counts = refl

counts_nothing : counted (query 60) 300 ≡ 0
counts_nothing = refl

-- an access on foot, ten minutes from the point to M
abbrev from_point : Query → Query
from_point query = record query { origin = place.Point 0; destination = place.Stop 3; depart = pos 1749023400 }

abbrev access : Times
access = record times { walks = (record { from = place.Point 0; to = place.Stop 0; seconds = 600 }) ∷ [] }

starts_on_foot : StartsOnFoot access (from_point asking) first_ride 600
starts_on_foot = (600, inr (λ e. cc, tt, (0, lit< tt, refl)), omega (arith, ints), refl)

not_at_once : StartsOnFoot access (record (from_point asking) { depart = pos 1749023401 }) first_ride 600 → ⊥
not_at_once starts = elim starts.1 [
  | inl h ↦ (let e = h.0 in cc)
  | inr h ↦ (
      let e = ap (λ s. s.seconds) (only_contained (record { from = place.Point 0; to = place.Stop 0; seconds = 600 }) (record { from = place.Point 0; to = place.Stop 0; seconds = starts.0 }) h.2) in
      let le : (pos 1749023401 +ℤ pos starts.0) ≤ℤ pos 1749024000 = starts.2 in
      omega (arith, ints))
]

starts_uncounted : StartsOnFoot access (from_point (query 60)) first_ride 0
starts_uncounted = (600, inr (λ e. cc, tt, (0, lit< tt, refl)), omega (arith, ints), refl)

-- where 120 seconds are needed for changing within N, nothing of it is walked
abbrev within_stop : Feed
within_stop = record feed { changes = (record { from = 1; to = 1; kind = Least 120 }) ∷ [] }

abbrev from_same_stop : Ride
from_same_stop = record second_ride { board = place.Stop 1 }

waits : ChangesOnFoot within_stop asking (place.Stop 1) (pos 1749025200) from_same_stop 0
waits = (120, inl (0, lit< tt, refl), omega (arith, ints), refl)

walks_nowhere : ChangesOnFoot within_stop asking (place.Stop 1) (pos 1749025200) from_same_stop 120 → ⊥
walks_nowhere c = let e = c.3 in omega arith

-- between two stops all of it is
between_stops : change_walk (place.Stop 1) (place.Stop 2) 300 ≡ 300
between_stops = refl

-- and within a stop none
within_one : change_walk (place.Stop 1) (place.Stop 1) 120 ≡ 0
within_one = refl

-- two triples that differ in the walk alone
abbrev walking : ℕ → Triple
walking walk = record triple { walk = walk }

shorter_covers : Covers (walking 300) (walking 1500)
shorter_covers = record { deadline = tt; arrival = omega (arith, ints); transfers = lit≤ tt; walk = lit≤ tt }

longer_does_not : Covers (walking 1500) (walking 300) → ⊥
longer_does_not c = let le = c.walk in omega arith

shorter_first : IsTripleBefore (walking 300) (walking 1500)
shorter_first = inr (refl, inr (refl, lit< tt))

longer_not_first : IsTripleBefore (walking 1500) (walking 300) → ⊥
longer_not_first (inl lt) = omega arith
longer_not_first (inr (e, inl lt)) = omega (arith, ints)
longer_not_first (inr (e, inr both)) = let lt = both.1 in omega arith

-- a longer walk comes first where it arrives earlier
earlier_first : IsTripleBefore (record (walking 1500) { arrival = pos 1749027599 }) (walking 300)
earlier_first = inr (refl, inl (omega (arith, ints)))

-- a label that was reached in five minutes on foot, and one that was reached a minute later without walking
abbrev label : Query → ℕ → ℕ → Label
label query arrival seconds = record { place = place.Stop 1; deadline = Never; arrival = pos arrival; walk = counted query seconds }

-- the one covers the other only where walks don't count
covers_uncounted : CoversPair (pair_of (label (query 60) 1749025200 300)) (pair_of (label (query 60) 1749025260 0))
covers_uncounted = record { deadline = tt; arrival = omega (arith, ints); walk = lit≤ tt }

covers_not_counted : CoversPair (pair_of (label asking 1749025200 300)) (pair_of (label asking 1749025260 0)) → ⊥
covers_not_counted c = let le = c.walk in omega arith

-- of two that arrive together the shorter walk comes first, where it counts
label_order : IsLabelBefore (label asking 1749025200 0) (label asking 1749025200 300)
label_order = inr (refl, inr (refl, lit< tt))

no_label_order : IsLabelBefore (label (query 60) 1749025200 0) (label (query 60) 1749025200 300) → ⊥
no_label_order (inl lt) = omega arith
no_label_order (inr (e, inl lt)) = omega (arith, ints)
no_label_order (inr (e, inr both)) = let lt = both.1 in omega arith
