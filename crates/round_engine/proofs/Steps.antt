-- One offer more in a round.
use Rattle.std.proofs.Common.{◌≡◌, inl, inr, ℕ, ◌+◌, ◌*◌, ◌<◌, ℤ, pos, ◌+ℤ◌, ◌≤ℤ◌, List, [], ◌∷◌, ◌++◌, All, Contains, slice_index_or, length, refl, sym, ◌∙◌, ap, subst, arith}
use Rattle.std.specs.Borrow.{Bor}
use Rattle.std.proofs.lemmas.Bool.{cases_lt, cases_order}
use Rattle.std.proofs.lemmas.Int.{by_lt_z, ints}
use Rattle.std.proofs.lemmas.List.{get_or_default}
use Rattle.std.proofs.lemmas.List.Elements.{Contains-get_or, Contains-push_cases}
use Rattle.flex_model.specs.declared.moment.Deadline.{Deadline}
use Rattle.flex_model.specs.Change.{HasEgress}
use Rattle.flex_model.specs.Deadline.{IsNoLater, lesser}
use Rattle.flex_model.specs.Journey.{limit}
use Rattle.flex_model.proofs.Orders.{IsNoLater-lesser, IsNoLater_trans, lesser_left, lesser_right}
use Rattle.flex_model.specs.declared.answer.Pair.{Pair}
use Rattle.flex_model.specs.declared.ride.Ride.{Ride}
use Rattle.flex_model.specs.LabelTable.{IsOnTheWay}
use Rattle.flex_model.specs.Triple.{CoversPair}
use Rattle.booking_rules.specs.Departures.{later}
use Rattle.ride_index.specs.declared.active_days.ActiveDays.{ActiveDays}
use Rattle.ride_index.specs.declared.offered_run.OfferedRun.{OfferedRun}
use Rattle.ride_index.specs.declared.boarded.BoardingPoint.{BoardingPoint}
use Rattle.ride_index.specs.Boarded.{AreOfferedAfter, IsCoveredBefore}
use Rattle.ride_index.specs.OfferedRuns.{IsCovered}
use Rattle.round_engine.specs.declared.offer.Offer.{Offer}
use Rattle.round_engine.specs.Limits.{IsInAny, IsLimitOver}
use Rattle.round_engine.specs.Offers.{LeavesFrom, nth_offer, wanted_from}
use Rattle.round_engine.specs.declared.boarding.Boarding.{Boarding}
use Rattle.round_engine.specs.declared.label.Label.{Label}
use Rattle.round_engine.specs.declared.task.Task.{Task}
use Rattle.round_engine.specs.Attained.{AreEnds, IsEndKept, IsEntry, IsHeldNow, IsLabel, IsOfferFrom, IsRoundState, IsStep, ended, number_of}
use Rattle.round_engine.specs.Bags.{BagsGrow, Entry, GainsAtLast, IsKept, IsKeptByAny, IsOffer, bag_at}
use Rattle.round_engine.specs.Chain.{deadline_up_to, pair_of, place_of}
use Rattle.round_engine.specs.Made.{made_pair}
use Rattle.round_engine.specs.Ridden.{AreRidden, IsPointRidden, carried_to, pair_from, point_at}
use Rattle.flex_model.proofs.Orders.{CoversPair_trans}
use Rattle.round_engine.proofs.Limits.{covered_by_end}

pub grow_refl : (bags : List (List Entry)) → BagsGrow bags bags
grow_refl bags = record { count = refl; kept = λ i pair kept. kept }

pub grow_trans : (a b c : List (List Entry)) → BagsGrow a b → BagsGrow b c → BagsGrow a c
grow_trans a b c p q = record { count = q.count ∙ p.count; kept = λ i pair kept. q.kept i pair (p.kept i pair kept) }

pub kept_by_more : (a b : List (List Entry)) (pair : Pair) → BagsGrow a b → IsKeptByAny a pair → IsKeptByAny b pair
kept_by_more a b pair grow kept = (kept.0, grow.kept kept.0 pair kept.1)

kept_weaker : (bag : List Entry) (pair other : Pair) → CoversPair pair other → IsKept bag pair → IsKept bag other
kept_weaker bag pair other covers kept = record { entry = kept.entry; among = kept.among; covers = CoversPair_trans kept.entry.0 pair other kept.covers covers }

module _ (earlier : List (List (List Entry))) where
  pub held_on : (round ends round' ends' : List (List Entry)) (at : ℕ) (pair : Pair) → BagsGrow round round' → BagsGrow ends ends'
      → IsHeldNow earlier round ends at pair → IsHeldNow earlier round' ends' at pair
  held_on round ends round' ends' at pair grow grow' (inl kept) = inl (grow.kept at pair kept)
  held_on round ends round' ends' at pair grow grow' (inr (inl kept)) = inr (inl (kept_by_more ends ends' pair grow' kept))
  held_on round ends round' ends' at pair grow grow' (inr (inr kept)) = inr (inr kept)

  pub held_weaker : (round ends : List (List Entry)) (at : ℕ) (pair other : Pair) → CoversPair pair other
      → IsHeldNow earlier round ends at pair → IsHeldNow earlier round ends at other
  held_weaker round ends at pair other covers (inl kept) = inl (kept_weaker (bag_at round at) pair other covers kept)
  held_weaker round ends at pair other covers (inr (inl kept)) = inr (inl (kept.0, kept_weaker _ pair other covers kept.1))
  held_weaker round ends at pair other covers (inr (inr kept)) = inr (inr (kept.0, kept_weaker _ pair other covers kept.1))

module _ (task : Task) (earlier : List (List (List Entry))) where
  pub no_step : (round ends : List (List Entry)) → IsRoundState task earlier round ends → IsStep task earlier round ends round ends
  no_step round ends state = record { state = state; round_grows = grow_refl round; ends_grow = grow_refl ends; at_last = λ t entry lt c. c }

  pub steps : (a a' b b' c c' : List (List Entry)) → IsStep task earlier a a' b b' → IsStep task earlier b b' c c' → IsStep task earlier a a' c c'
  steps a a' b b' c c' p q = record {
    state = q.state;
    round_grows = grow_trans a b c p.round_grows q.round_grows;
    ends_grow = grow_trans a' b' c' p.ends_grow q.ends_grow;
    at_last = λ t entry lt c. let e = p.ends_grow.count in p.at_last t entry lt (q.at_last t entry (omega arith) c);
  }

  -- an attained label is added
  pub label_added : (round ends round' ends' : List (List Entry)) (at : ℕ) (pair : Pair) (label : Bor Label) → IsRoundState task earlier round ends
      → IsLabel task (length earlier + 1) label.now → pair_of label.now ≡ pair → number_of (length task.feed.now.stops) (place_of label.now) ≡ at
      → AreEnds task ends' → BagsGrow ends ends' → GainsAtLast ends ends' → IsEndKept task label.now ends' → (IsKeptByAny ends pair → ⊥)
      → IsOffer at (pair, label) round round' → IsStep task earlier round ends round' ends'
  label_added round ends round' ends' at pair label state is same number are grow at_last kept unkept offer = record {
    state = record {
      widths = state.widths;
      width = offer.grows.count ∙ state.width;
      count = grow.count ∙ state.count;
      few = state.few;
      labels = λ i entry c. elim (offer.came i entry c) [
        | inl before ↦ state.labels i entry before
        | inr new ↦ subst (IsEntry task (length earlier + 1) i) (sym new.1) (record { label = is; pair = same; number = number ∙ sym new.0 })
      ];
      ended_in_time = λ i seconds entry c egress ends. elim (offer.came i entry c) [
        | inl before ↦ kept_by_more _ _ (ended task.query.now entry.0 seconds) grow (state.ended_in_time i seconds entry before egress ends)
        | inr new ↦ subst (λ x. IsKeptByAny ends' (ended task.query.now x.0 seconds)) (sym new.1)
            (subst (λ p. IsKeptByAny ends' (ended task.query.now p seconds)) same
            (kept seconds (subst (λ x. HasEgress task.times.now task.query.now (place_of x.1.now) seconds) new.1 egress)
            (subst (λ p. (p.arrival +ℤ pos seconds) ≤ℤ limit task.query.now) (ap (λ x. x.0) new.1 ∙ sym same) ends)))
      ];
      ends_are = are;
      pruned = λ i t entry over lt c d covers.
          let count = state.count in
          let before : Contains (bag_at ends t) over = at_last t over (omega arith) d in
          elim (offer.came i entry c) [
            | inl old ↦ state.pruned i t entry over lt old before covers
            | inr new ↦ unkept (t, record { entry = over; among = before; covers = subst (λ x. CoversPair over.0 x.0) new.1 covers })
          ];
    };
    round_grows = offer.grows;
    ends_grow = grow;
    at_last = at_last;
  }

-- what each ride of a run makes of the boarding is held
abbrev pub IsRunHeld : Task → List (List (List Entry)) → List (List Entry) → List (List Entry) → Boarding → OfferedRun → Type 0
IsRunHeld task earlier round ends boarding run = (k : ℕ) → k < run.count
    → IsHeldNow earlier round ends (number_of (length task.feed.now.stops) run.ride.alight) (made_pair boarding (nth_offer run k))

-- each ride of a run is an offer from the boarding
abbrev pub IsRunFrom : Task → Boarding → OfferedRun → Type 0
IsRunFrom task boarding run = (k : ℕ) → k < run.count → IsOfferFrom task boarding (nth_offer run k)

-- a ride is covered by the ride of a run that covers it
module _ (task : Task) (active : Bor ActiveDays) (earlier : List (List (List Entry))) (round ends : List (List Entry)) (boarding : Boarding)
    (runs : List OfferedRun) (least_limit : ℤ) where
  covered_ridden : All (IsRunHeld task earlier round ends boarding) runs → (ride : Ride) (deadline : Deadline) → IsCovered runs ride deadline
      → IsHeldNow earlier round ends (number_of (length task.feed.now.stops) ride.alight) (made_pair boarding (record { ride = ride; deadline = deadline }))
  covered_ridden held ride deadline found =
      let run : OfferedRun = found.run in
      let at = found.among in
      let least : Deadline = deadline_up_to boarding.parent in
      let offer : Offer = nth_offer run found.at in
      let wanted : Offer = record { ride = ride; deadline = deadline } in
      let covers : CoversPair (made_pair boarding offer) (made_pair boarding wanted) = record {
        deadline = IsNoLater-lesser (lesser least deadline) least offer.deadline (lesser_left least deadline)
            (IsNoLater_trans (lesser least deadline) deadline offer.deadline (lesser_right least deadline) found.booked);
        arrival = found.arrives;
        walk = omega arith;
      } in
      held_weaker earlier round ends (number_of (length task.feed.now.stops) ride.alight) (made_pair boarding offer) (made_pair boarding wanted) covers
      (subst (λ p. IsHeldNow earlier round ends (number_of (length task.feed.now.stops) p) (made_pair boarding offer)) found.alights
      ((subst (IsRunHeld task earlier round ends boarding) at.2 (held at.0 run at.1)) found.at found.low))

  -- a ride that a point before covers is held as what that point's ride makes is
  before_ridden : (points : List BoardingPoint) → ((point : BoardingPoint) → Contains points point → IsPointRidden task earlier round ends point)
      → least_limit ≤ℤ limit task.query.now → (ride : Ride) (deadline : Deadline)
      → IsCoveredBefore (wanted_from task active boarding.place boarding.earliest least_limit) points (carried_to boarding) ride deadline
      → IsHeldNow earlier round ends (number_of (length task.feed.now.stops) ride.alight) (made_pair boarding (record { ride = ride; deadline = deadline }))
  before_ridden points ridden less ride deadline b =
      let point : BoardingPoint = b.point in
      let other : Ride = b.other in
      let is = b.is_wanted in
      let least : Deadline = deadline_up_to boarding.parent in
      let by = is.arrives in
      let wanted : Offer = record { ride = ride; deadline = deadline } in
      let held = ridden point b.among other b.its (record {
        usable = record { permitted = is.permitted; bookable = is.bookable };
        booked = is.booked;
        alights = is.alights;
        arrives = omega (arith, ints, by, less);
      })
      (record { boards = is.boards; leaves = is.leaves }) in
      held_weaker earlier round ends (number_of (length task.feed.now.stops) ride.alight) (pair_from point.carried other b.its) (made_pair boarding wanted)
      (record {
        deadline = IsNoLater-lesser (lesser least deadline) point.carried.deadline b.its
            (IsNoLater_trans (lesser least deadline) least point.carried.deadline (lesser_left least deadline) b.as_good.booked)
            (IsNoLater_trans (lesser least deadline) deadline b.its (lesser_right least deadline) b.booked);
        arrival = b.arrives;
        walk = b.as_good.short;
      })
      (subst (λ p. IsHeldNow earlier round ends (number_of (length task.feed.now.stops) p) (pair_from point.carried other b.its)) b.alights held)

  offered_ridden : (points : List BoardingPoint) → ((point : BoardingPoint) → Contains points point → IsPointRidden task earlier round ends point)
      → least_limit ≤ℤ limit task.query.now
      → AreOfferedAfter (wanted_from task active boarding.place boarding.earliest least_limit) points (carried_to boarding) runs → All (IsRunHeld task earlier round ends boarding) runs
      → (ride : Ride) (deadline : Deadline) → IsOnTheWay task.feed.now task.times.now task.days.now task.query.now ride deadline
      → LeavesFrom boarding.place boarding.earliest ride → ride.arrives ≤ℤ least_limit
      → IsHeldNow earlier round ends (number_of (length task.feed.now.stops) ride.alight) (made_pair boarding (record { ride = ride; deadline = deadline }))
  offered_ridden points ridden less are held ride deadline way leaves in_time =
      elim (are.whole ride deadline (record {
        permitted = way.usable.permitted;
        bookable = way.usable.bookable;
        booked = way.booked;
        boards = leaves.boards;
        alights = way.alights;
        leaves = leaves.leaves;
        arrives = in_time;
      })) [
        | inl covered ↦ covered_ridden held ride deadline covered
        | inr before ↦ before_ridden points ridden less ride deadline before
      ]

  -- what arrives later is covered by an end
  pub all_ridden : (before : List (List Entry)) (points : List BoardingPoint) → BagsGrow before ends
      → ((point : BoardingPoint) → Contains points point → IsPointRidden task earlier round ends point)
      → IsLimitOver (IsInAny before) (deadline_up_to boarding.parent) boarding.walk (limit task.query.now) least_limit
      → AreOfferedAfter (wanted_from task active boarding.place boarding.earliest least_limit) points (carried_to boarding) runs
      → All (IsRunHeld task earlier round ends boarding) runs → AreRidden task earlier round ends boarding
  all_ridden before points grow ridden limited are held ride deadline way leaves = by_lt_z least_limit ride.arrives
      (λ past. inr (inl (kept_by_more before ends (made_pair boarding (record { ride = ride; deadline = deadline })) grow
      (covered_by_end before boarding (record { ride = ride; deadline = deadline }) (limit task.query.now) least_limit limited way.arrives past))))
      (λ in_time. offered_ridden points ridden limited.low are held ride deadline way leaves in_time)

-- The first rides of a run are taken in.
pub record IsRunTaken (task : Task) (earlier : List (List (List Entry))) (boarding : Boarding) (run : OfferedRun)
    (a a' b b' : List (List Entry)) (n : ℕ) : Type 0 where
  pub step : IsStep task earlier a a' b b'
  pub held : (k : ℕ) → k < n
      → IsHeldNow earlier b b' (number_of (length task.feed.now.stops) run.ride.alight) (made_pair boarding (nth_offer run k))

-- The first runs are taken in.
pub record AreTaken (task : Task) (earlier : List (List (List Entry))) (boarding : Boarding) (runs : List OfferedRun)
    (a a' b b' : List (List Entry)) (n : ℕ) : Type 0 where
  pub step : IsStep task earlier a a' b b'
  pub held : (j : ℕ) (d : OfferedRun) → j < n → IsRunHeld task earlier b b' boarding (slice_index_or runs j d)

-- The rides after the first boardings are held.
pub record AreRiddenTo (task : Task) (earlier : List (List (List Entry))) (boardings : List Boarding)
    (a a' b b' : List (List Entry)) (n : ℕ) : Type 0 where
  pub step : IsStep task earlier a a' b b'
  pub ridden : (j : ℕ) (d : Boarding) → j < n → AreRidden task earlier b b' (slice_index_or boardings j d)

module _ (task : Task) (earlier : List (List (List Entry))) (a a' b b' c c' : List (List Entry)) (n : ℕ) where
  pub run_more : (boarding : Boarding) (run : OfferedRun) → IsRunTaken task earlier boarding run a a' b b' n → IsStep task earlier b b' c c'
      → IsHeldNow earlier c c' (number_of (length task.feed.now.stops) run.ride.alight) (made_pair boarding (nth_offer run n))
      → IsRunTaken task earlier boarding run a a' c c' (n + 1)
  run_more boarding run taken step held = record {
    step = steps task earlier a a' b b' c c' taken.step step;
    held = λ k less. elim (cases_order k n) [
      | inl same ↦ subst (λ m. IsHeldNow earlier c c' (number_of (length task.feed.now.stops) run.ride.alight) (made_pair boarding (nth_offer run m))) (sym same) held
      | inr (inl before) ↦ held_on earlier b b' c c' _ _ step.round_grows step.ends_grow (taken.held k before)
      | inr (inr after) ↦ absurd (omega arith)
    ];
  }

  -- if no later ride of the run can be booked later, each one is held with the last that was taken in
  pub run_rest : (boarding : Boarding) (run : OfferedRun) → IsRunTaken task earlier boarding run a a' c c' (n + 1)
      → IsNoLater (lesser (deadline_up_to boarding.parent) run.latest) (lesser (deadline_up_to boarding.parent) (nth_offer run n).deadline)
      → IsRunHeld task earlier c c' boarding run
  run_rest boarding run taken last k low = elim (cases_lt k (n + 1)) [
    | inl before ↦ taken.held k before
    | inr after ↦ (
        let least : Deadline = deadline_up_to boarding.parent in
        let late : Deadline = (nth_offer run k).deadline in
        held_weaker earlier c c' (number_of (length task.feed.now.stops) run.ride.alight) (made_pair boarding (nth_offer run n)) (made_pair boarding (nth_offer run k))
        (record {
          deadline = IsNoLater_trans (lesser least late) (lesser least run.latest) (lesser least (nth_offer run n).deadline)
              (IsNoLater-lesser (lesser least late) least run.latest (lesser_left least late)
              (IsNoLater_trans (lesser least late) late run.latest (lesser_right least late) (lesser_right (later run.closes (60 * k)) run.latest)))
              last;
          arrival = omega (arith, ints);
          walk = omega arith;
        })
        (taken.held n (omega arith)))
  ]

  pub taken_more : (boarding : Boarding) (runs : List OfferedRun) (dummy : OfferedRun) → n < length runs → AreTaken task earlier boarding runs a a' b b' n
      → IsStep task earlier b b' c c' → IsRunHeld task earlier c c' boarding (slice_index_or runs n dummy)
      → AreTaken task earlier boarding runs a a' c c' (n + 1)
  taken_more boarding runs dummy lt taken step held = record {
    step = steps task earlier a a' b b' c c' taken.step step;
    held = λ j d less. elim (cases_order j n) [
      | inl same ↦ subst (IsRunHeld task earlier c c' boarding)
          (get_or_default runs n dummy d lt ∙ ap (λ m. slice_index_or runs m d) (sym same)) held
      | inr (inl before) ↦ λ k low. held_on earlier b b' c c' _ _ step.round_grows step.ends_grow (taken.held j d before k low)
      | inr (inr after) ↦ absurd (omega arith)
    ];
  }

  pub ridden_more : (boardings : List Boarding) (boarding : Boarding) → n < length boardings → AreRiddenTo task earlier boardings a a' b b' n
      → IsStep task earlier b b' c c' → boarding ≡ slice_index_or boardings n boarding → AreRidden task earlier c c' boarding
      → AreRiddenTo task earlier boardings a a' c c' (n + 1)
  ridden_more boardings boarding lt taken step is ridden = record {
    step = steps task earlier a a' b b' c c' taken.step step;
    ridden = λ j d less. elim (cases_order j n) [
      | inl same ↦ subst (λ o. AreRidden task earlier c c' o)
          (is ∙ get_or_default boardings n boarding d lt ∙ ap (λ m. slice_index_or boardings m d) (sym same)) ridden
      | inr (inl before) ↦ λ ride deadline way leaves. held_on earlier b b' c c' _ _ step.round_grows step.ends_grow (taken.ridden j d before ride deadline way leaves)
      | inr (inr after) ↦ absurd (omega arith)
    ];
  }

-- What the points make is held as the round goes on.
pub points_on : (task : Task) (earlier : List (List (List Entry))) (b b' c c' : List (List Entry)) (points : List BoardingPoint) → IsStep task earlier b b' c c'
    → ((point : BoardingPoint) → Contains points point → IsPointRidden task earlier b b' point)
    → (point : BoardingPoint) → Contains points point → IsPointRidden task earlier c c' point
points_on task earlier b b' c c' points step ridden point among ride deadline way leaves =
    held_on earlier b b' c c' _ _ step.round_grows step.ends_grow (ridden point among ride deadline way leaves)

-- The boarding's point is one more.
pub points_more : (task : Task) (earlier : List (List (List Entry))) (round ends : List (List Entry)) (points : List BoardingPoint) (boarding : Boarding)
    → ((point : BoardingPoint) → Contains points point → IsPointRidden task earlier round ends point) → AreRidden task earlier round ends boarding
    → (point : BoardingPoint) → Contains (points ++ point_at boarding ∷ []) point → IsPointRidden task earlier round ends point
points_more task earlier round ends points boarding ridden new point among = elim (Contains-push_cases points (point_at boarding) point among) [
  | inl old ↦ ridden point old
  | inr same ↦ subst (IsPointRidden task earlier round ends) same new
]

-- runs that are offered from a boarding
pub runs_from_boarding : (task : Task) (active : Bor ActiveDays) (boarding : Boarding) (runs : List OfferedRun) (points : List BoardingPoint) (least_limit : ℤ)
    → least_limit ≤ℤ limit task.query.now
    → AreOfferedAfter (wanted_from task active boarding.place boarding.earliest least_limit) points (carried_to boarding) runs → All (IsRunFrom task boarding) runs
runs_from_boarding task active boarding runs points least_limit less are = λ j d lt k low.
    let wanted = are.each (slice_index_or runs j d) k (Contains-get_or runs j d lt) low in
    record {
      on_the_way = record {
        usable = record { permitted = wanted.permitted; bookable = wanted.bookable };
        booked = wanted.booked;
        alights = wanted.alights;
        arrives = (let by = wanted.arrives in omega (arith, ints, by, less));
      };
      leaves = record { boards = wanted.boards; leaves = wanted.leaves };
    }
