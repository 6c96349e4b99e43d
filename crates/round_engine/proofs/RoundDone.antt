-- A round that is done can follow the earlier ones.
use Rattle.std.proofs.Common.{◌≡◌, inl, inr, ℕ, suc, ◌+◌, ◌-◌, ◌<◌, ◌≤◌, ℤ, pos, ◌+ℤ◌, ◌≤ℤ◌, List, [], ◌∷◌, ◌++◌, All, Contains, length, map, refl, sym, ◌∙◌, ap, subst, arith}
use Rattle.std.proofs.lemmas.Int.{ints}
use Rattle.std.proofs.lemmas.Option.{slice_get_within}
use Rattle.flex_model.specs.declared.answer.Triple.{Triple}
use Rattle.flex_model.specs.declared.moment.Deadline.{Deadline}
use Rattle.flex_model.specs.declared.moment.Deadline.TheVariants.{Never}
use Rattle.flex_model.specs.declared.place.Place.{Place}
use Rattle.flex_model.specs.declared.place.Place.TheVariants.{Stop, Point}
use Rattle.flex_model.specs.declared.ride.Ride.{Ride}
use Rattle.flex_model.specs.Change.{HasEgress}
use Rattle.flex_model.specs.Deadline.{lesser}
use Rattle.flex_model.specs.Journey.{Attains, IsLabelPlace, change_walk, counted, limit}
use Rattle.flex_model.specs.LabelTable.{IsAttained, IsHeld, IsOnTheWay, Label, LeadsTo, first_pair, next_pair, triple_of}
use Rattle.flex_model.specs.Place.{HasBoards}
use Rattle.flex_model.specs.SoundQuery.{IsQueryPlace}
use Rattle.flex_model.specs.Triple.{Covers, CoversPair}
use Rattle.flex_model.proofs.Labels.{labels_end}
use Rattle.flex_model.proofs.Orders.{CoversPair_refl, IsNoLater-lesser, IsNoLater_trans, lesser_left, lesser_right}
use Rattle.flex_model.specs.declared.answer.Pair.{Pair}
use Rattle.round_engine.specs.Made.{made_pair}
use Rattle.round_engine.specs.declared.boarding.Boarding.{Boarding}
use Rattle.round_engine.specs.declared.task.Task.{Task}
use Rattle.round_engine.specs.Attained.{IsEntry, IsHeldNow, IsRoundState, IsSoundTask, number_of}
use Rattle.round_engine.specs.Bags.{BagsGrow, Entry, bag_at, round_at}
use Rattle.round_engine.specs.Chain.{deadline_up_to, pair_of, place_of, rides_of}
use Rattle.round_engine.specs.Flat.{AreFirstBoardings, AreNextBoardings, IsBoarded, label_of, labels_in, triple_at, triples_from}
use Rattle.round_engine.specs.Ridden.{AreRidden}
use Rattle.round_engine.specs.Search.{AreFinalsWith, IsNextRound}
use Rattle.round_engine.proofs.Apart.{in_fewer, in_range}
use Rattle.round_engine.proofs.Flats.{entry_of, in_earlier, in_last, in_round_range, in_triples, map_length, of_labels, of_triples}
use Rattle.flex_model.proofs.Extensions.{alights_at}
use Rattle.round_engine.proofs.Steps.{held_weaker}

pub stop_within : (task : Task) → IsSoundTask task → (s : ℕ) → IsLabelPlace task.feed.now task.query.now (Stop s) → s < length task.feed.now.stops
stop_within task sound s (inl boards) = slice_get_within task.feed.now.stops s boards.0 boards.1
stop_within task sound s (inr e) =
    let boards : HasBoards task.feed.now s = subst (IsQueryPlace task.feed.now task.times.now) (sym e) sound.query.destination in
    slice_get_within task.feed.now.stops s boards.0 boards.1

-- places of labels are told apart by their numbers
pub same_place : (task : Task) → IsSoundTask task → (a b : Place) → IsLabelPlace task.feed.now task.query.now a → IsLabelPlace task.feed.now task.query.now b
    → number_of (length task.feed.now.stops) a ≡ number_of (length task.feed.now.stops) b → a ≡ b
same_place task sound (Stop s) (Stop t) h i e = ap Stop e
same_place task sound (Stop s) (Point p) h i e = (let lt = stop_within task sound s h in absurd (omega arith))
same_place task sound (Point p) (Stop s) h i e = (let lt = stop_within task sound s i in absurd (omega arith))
same_place task sound (Point p) (Point q) h i e = h ∙ sym i

-- what an entry's pair covers
pair_covers : (entry : Entry) (pair : Pair) → CoversPair entry.0 pair
    → CoversPair (record { deadline = entry.0.deadline; arrival = entry.0.arrival; walk = entry.0.walk }) pair
pair_covers entry pair covers = record { deadline = covers.deadline; arrival = covers.arrival; walk = covers.walk }

module _ (task : Task) (sound : IsSoundTask task) (earlier : List (List (List Entry))) (round ends : List (List Entry))
    (state : IsRoundState task earlier round ends)
    (entries : (r i : ℕ) (entry : Entry) → Contains (bag_at (round_at earlier r) i) entry → IsEntry task (r + 1) i entry) where
  rounds : List (List Label)
  rounds = map labels_in earlier ++ labels_in round ∷ []

  place_at : (k i : ℕ) (entry : Entry) (place : Place) → IsEntry task k i entry → IsLabelPlace task.feed.now task.query.now place
      → i ≡ number_of (length task.feed.now.stops) place → place_of entry.1.now ≡ place
  place_at k i entry place is allowed e =
      let reaches = is.label.reaches in
      same_place task sound (place_of entry.1.now) place
      (subst (IsLabelPlace task.feed.now task.query.now) reaches.at_place reaches.journey.place) allowed (is.number ∙ e)

  -- what is held now is held in the round
  lifted : (place : Place) (pair : Pair) → IsLabelPlace task.feed.now task.query.now place
      → IsHeldNow earlier round ends (number_of (length task.feed.now.stops) place) pair
      → IsHeld (triples_from 0 ends) (map labels_in earlier ++ labels_in round ∷ []) place pair (length earlier + 1)
  lifted place pair allowed (inl kept) = inl (record {
    round = suc (length earlier);
    label = label_of kept.entry;
    in_round = in_last earlier round (number_of (length task.feed.now.stops) place) kept.entry kept.among;
    early = omega arith;
    at_place = place_at (length earlier + 1) _ kept.entry place (state.labels _ kept.entry kept.among) allowed refl;
    covers = pair_covers kept.entry pair kept.covers;
  })
  lifted place pair allowed (inr (inl kept)) =
      let k = kept.1 in
      let within = in_range ends kept.0 k.entry k.among in
      let count = state.count in
      let e : kept.0 + 0 ≡ kept.0 = omega arith in
      inr (record {
        triple = triple_at kept.0 k.entry;
        is_printed = subst (λ n. Contains (triples_from 0 ends) (triple_at n k.entry)) e (in_triples 0 ends kept.0 k.entry k.among);
        few = omega arith;
        covers = pair_covers k.entry pair k.covers;
      })
  lifted place pair allowed (inr (inr kept)) =
      let k = kept.1 in
      let is = in_earlier earlier (labels_in round ∷ []) kept.0 (number_of (length task.feed.now.stops) place) k.entry k.among in
      let within = slice_get_within (map labels_in earlier ++ labels_in round ∷ []) kept.0 is.0 is.1 in
      inl (record {
        round = suc kept.0;
        label = label_of k.entry;
        in_round = is;
        early = early kept.0 (number_of (length task.feed.now.stops) place) k.entry k.among;
        at_place = place_at (kept.0 + 1) _ k.entry place (entries kept.0 _ k.entry k.among) allowed refl;
        covers = pair_covers k.entry pair k.covers;
      })
    where
      early : (r i : ℕ) (x : Entry) → Contains (bag_at (round_at earlier r) i) x → suc r ≤ length earlier + 1
      early r i x c = (let lt = in_round_range earlier r i x c in omega arith)

  module _ (boardings : List Boarding) (ridden : All (AreRidden task earlier round ends) boardings) where
    -- a ride from a boarding is held
    from_boarding : (ride : Ride) (deadline least : Deadline) (moment : ℤ) (walk : ℕ) → IsOnTheWay task.feed.now task.times.now task.days.now task.query.now ride deadline
        → IsBoarded boardings ride.board moment least walk → moment ≤ℤ ride.departs
        → IsHeld (triples_from 0 ends) (map labels_in earlier ++ labels_in round ∷ []) ride.alight
        (record { deadline = lesser least deadline; arrival = ride.arrives; walk = walk }) (length earlier + 1)
    from_boarding ride deadline least moment walk way boarded leaves =
        let b : Boarding = boarded.boarding in
        let among = boarded.among in
        let early = boarded.early in
        let there : AreRidden task earlier round ends b = subst (AreRidden task earlier round ends) among.2 (ridden among.0 b among.1) in
        let held = there ride deadline way (record { boards = sym boarded.at_place; leaves = omega (arith, ints) }) in
        let pair : Pair = record { deadline = lesser least deadline; arrival = ride.arrives; walk = walk } in
        lifted ride.alight pair
        (alights_at task.feed.now task.times.now task.days.now task.query.now sound.feed ride deadline way)
        (held_weaker earlier round ends (number_of (length task.feed.now.stops) ride.alight) (made_pair b (record { ride = ride; deadline = deadline })) pair
        (record {
          deadline = IsNoLater-lesser (lesser least deadline) (deadline_up_to b.parent) deadline
              (IsNoLater_trans (lesser least deadline) least (deadline_up_to b.parent) (lesser_left least deadline) boarded.booked) (lesser_right least deadline);
          arrival = omega (arith, ints);
          walk = boarded.short;
        })
        held)

    pub next_round : (length earlier ≡ 0 → AreFirstBoardings task boardings)
        → (0 < length earlier → AreNextBoardings task (round_at earlier (length earlier - 1)) boardings)
        → IsNextRound task.feed.now task.times.now task.days.now task.query.now (triples_from 0 ends) (map labels_in earlier) (labels_in round)
    next_round first next = record {
      first = λ ride deadline walk none way starts.
          let none_is : length earlier ≡ 0 = sym (map_length earlier) ∙ none in
          subst (λ n. IsHeld (triples_from 0 ends) (map labels_in earlier ++ labels_in round ∷ []) ride.alight (first_pair ride deadline walk) n) (one none_is)
          (subst (λ w. IsHeld (triples_from 0 ends) (map labels_in earlier ++ labels_in round ∷ []) ride.alight (first_pair ride deadline w) (length earlier + 1)) (sym starts.3)
          (from_boarding ride deadline Never (task.query.now.depart +ℤ pos starts.0) (counted task.query.now starts.0) way (first none_is ride.board starts.0 starts.1) starts.2));
      next = λ label ride deadline walk h way leads.
          let found = entry_of earlier (length (map labels_in earlier)) label h in
          let entry : Entry = found.2 in
          let at : found.0 ≡ length earlier - 1 = (let e = found.3 in let m = map_length earlier in omega arith) in
          let some : 0 < length earlier = (let e = found.3 in let m = map_length earlier in omega arith) in
          let there = subst (λ r. Contains (bag_at (round_at earlier r) found.1) entry) at found.4 in
          let leads' : LeadsTo task.feed.now task.query.now (label_of entry) ride walk = subst (λ l. LeadsTo task.feed.now task.query.now l ride walk) found.5 leads in
          let w : ℕ = counted task.query.now (change_walk (place_of entry.1.now) ride.board leads'.0) in
          subst (λ l. IsHeld (triples_from 0 ends) (map labels_in earlier ++ labels_in round ∷ []) ride.alight (next_pair l ride deadline walk) (length (map labels_in earlier) + 1)) (sym found.5)
          (subst (λ n. IsHeld (triples_from 0 ends) (map labels_in earlier ++ labels_in round ∷ []) ride.alight (next_pair (label_of entry) ride deadline walk) (n + 1)) (sym (map_length earlier))
          (subst (λ m. IsHeld (triples_from 0 ends) (map labels_in earlier ++ labels_in round ∷ []) ride.alight (next_pair (label_of entry) ride deadline m) (length earlier + 1)) (sym leads'.3)
          (from_boarding ride deadline entry.0.deadline (entry.0.arrival +ℤ pos leads'.0) (entry.0.walk + w) way
          (next some found.1 entry there ride.board leads'.0 leads'.1) leads'.2)));
      attained = λ label c.
          let found = of_labels round label c in
          let is = state.labels found.0 found.1 found.2 in
          subst (IsAttained task.feed.now task.times.now task.days.now task.query.now (length (map labels_in earlier) + 1)) (sym found.3)
          (subst (λ n. IsAttained task.feed.now task.times.now task.days.now task.query.now (n + 1) (label_of found.1)) (sym (map_length earlier))
          (subst (λ p. IsAttained task.feed.now task.times.now task.days.now task.query.now (length earlier + 1) (record { place = place_of found.1.1.now; deadline = p.deadline; arrival = p.arrival; walk = p.walk })) is.pair
          (rides_of found.1.1.now, is.label.count, is.label.reaches)));
    }
      where
        one : length earlier ≡ 0 → length earlier + 1 ≡ 1
        one e = omega arith

  pub finals_with : (old : List (List Entry)) → BagsGrow (old ++ [] ∷ []) ends
      → AreFinalsWith task.feed.now task.times.now task.days.now task.query.now (triples_from 0 old) (length earlier + 1) (labels_in round) (triples_from 0 ends)
  finals_with old grow = record {
    improved = λ triple c.
        let found = of_triples 0 old triple c in
        let entry : Entry = found.1 in
        let kept = grow.kept found.0 entry.0 (record { entry = entry; among = in_fewer old found.0 entry found.2; covers = CoversPair_refl entry.0 }) in
        let other : Triple = triple_at (found.0 + 0) kept.entry in (
          other,
          in_triples 0 ends found.0 kept.entry kept.among,
          subst (Covers other) (sym found.3) (record { deadline = kept.covers.deadline; arrival = kept.covers.arrival; transfers = omega arith; walk = kept.covers.walk }),
        );
    covered = λ label seconds c egress in_time.
        let found = of_labels round label c in
        let entry : Entry = found.1 in
        let kept = state.ended_in_time found.0 seconds entry found.2
        (subst (λ l. HasEgress task.times.now task.query.now l.place seconds) found.3 egress)
        (subst (λ l. (l.arrival +ℤ pos seconds) ≤ℤ limit task.query.now) found.3 in_time) in
        let k = kept.1 in
        let within = in_range ends kept.0 k.entry k.among in
        let count = state.count in
        let triple : Triple = triple_at (kept.0 + 0) k.entry in (
          triple,
          in_triples 0 ends kept.0 k.entry k.among,
          subst (λ l. Covers triple (triple_of task.query.now l seconds (length earlier + 1))) (sym found.3)
              (record { deadline = k.covers.deadline; arrival = k.covers.arrival; transfers = omega arith; walk = k.covers.walk }),
        );
    attained = λ triple c.
        let found = of_triples 0 ends triple c in
        let is = state.ends_are found.0 found.1 found.2 in
        let label : Label = record { place = place_of found.1.1.now; deadline = (pair_of found.1.1.now).deadline; arrival = (pair_of found.1.1.now).arrival; walk = (pair_of found.1.1.now).walk } in
        let attained = labels_end task.feed.now task.times.now task.days.now task.query.now (found.0 + 1) label is.seconds (omega arith)
        (rides_of found.1.1.now, is.label.count, is.label.reaches) is.egress is.in_time in
        let e : found.0 + 0 ≡ (found.0 + 1) - 1 = omega arith in
        let same : triple ≡ triple_of task.query.now label is.seconds (found.0 + 1) =
        found.3 ∙ ap (λ p. record { deadline = p.deadline; arrival = p.arrival; transfers = found.0 + 0; walk = p.walk }) is.pair
        ∙ ap (λ n. record { deadline = label.deadline; arrival = label.arrival +ℤ pos is.seconds; transfers = n; walk = label.walk + counted task.query.now is.seconds }) e in
        inr (attained.0, subst (Attains task.feed.now task.times.now task.days.now task.query.now attained.0) (sym same) attained.1);
  }
