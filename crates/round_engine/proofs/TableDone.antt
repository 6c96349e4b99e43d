-- What a search gives, once all rounds are done.
use Rattle.std.proofs.Common.{◌≡◌, inl, inr, ℕ, suc, ◌+◌, ◌<◌, pos, ◌+ℤ◌, ◌≤ℤ◌, ◌↔◌, List, [], ◌∷◌, All, AllPairs, Contains, length, map, refl, sym, ◌∙◌, ap, subst, arith}
use Rattle.std.proofs.lemmas.List.Elements.{Contains-append_cases}
use Rattle.flex_model.specs.declared.answer.Pair.{Pair}
use Rattle.flex_model.specs.declared.answer.Triple.{Triple}
use Rattle.flex_model.specs.declared.feed.Feed.{Feed}
use Rattle.flex_model.specs.declared.moment.DayTable.{DayTable}
use Rattle.flex_model.specs.declared.place.Place.{Place}
use Rattle.flex_model.specs.declared.query.Query.{Query}
use Rattle.flex_model.specs.declared.ride.Ride.{Ride}
use Rattle.flex_model.specs.declared.times.Times.{Times}
use Rattle.flex_model.specs.Answer.{IsParetoBest}
use Rattle.flex_model.specs.Change.{HasEgress}
use Rattle.flex_model.specs.Journey.{Attains, Reaches, limit}
use Rattle.flex_model.specs.LabelTable.{IsClosed}
use Rattle.flex_model.specs.Triple.{CoversPair, IsTripleBefore, pair_of_triple}
use Rattle.flex_model.proofs.Found.{All-from_contains, none_contained}
use Rattle.label_bag.specs.Bag.{IsBag}
use Rattle.round_engine.specs.declared.label.Final.{Final}
use Rattle.round_engine.specs.declared.task.Task.{Task}
use Rattle.round_engine.specs.Attained.{IsSoundTask, ended}
use Rattle.round_engine.specs.Bags.{AreApartBags, Entry, bag_at}
use Rattle.round_engine.specs.Chain.{pair_of, place_of, rides_of}
use Rattle.round_engine.specs.Flat.{labels_in, triples_from}
use Rattle.round_engine.specs.Searched.{IsSearchState}
use Rattle.round_engine.specs.Table.{IsFinal, IsSearchTable, final_at, final_triples, finals_from}
use Rattle.round_engine.proofs.FinalLists.{triples_are}
use Rattle.round_engine.proofs.FinalOrder.{in_order}
use Rattle.round_engine.proofs.Flats.{map_length, map_of}
use Rattle.round_engine.proofs.Rounds.{ended as searches_ended}

-- a pair as a triple with so many transfers
abbrev triple_with : ℕ → Pair → Triple
triple_with k pair = record { deadline = pair.deadline; arrival = pair.arrival; transfers = k; walk = pair.walk }

-- a partial journey from which the destination is reached in time
reaches_end : (feed : Feed) (times : Times) (days : DayTable) (query : Query) (k seconds : ℕ) (rides : List Ride) (place : Place) (pair : Pair)
    → length rides ≡ k + 1 → Reaches feed times days query rides place pair → HasEgress times query place seconds
    → (pair.arrival +ℤ pos seconds) ≤ℤ limit query → Attains feed times days query rides (triple_with k (ended query pair seconds))
reaches_end feed times days query k seconds rides place pair count reaches egress ends =
    let partial = reaches.journey in record {
      journey = record {
        itinerary = partial.itinerary;
        last = partial.last;
        is_last = partial.is_last;
        seconds = seconds;
        egress = subst (λ p. HasEgress times query p seconds) (sym reaches.at_place) egress;
        ends = subst (λ a. (a +ℤ pos seconds) ≤ℤ limit query) (sym reaches.arrives) ends;
      };
      deadline = reaches.booked;
      arrival = ap (λ a. a +ℤ pos seconds) (sym reaches.arrives);
      transfers = sym count;
      walked = pair.walk;
      walks = reaches.walks;
      walk = refl;
    }

of_finals : (t : ℕ) (bags : List (List Entry)) (final : Final) → Contains (finals_from t bags) final
    → (i : ℕ) × (entry : Entry) × Contains (bag_at bags i) entry × (final ≡ final_at (i + t) entry)
of_finals t [] final c = absurd (none_contained final c)
of_finals t (bag ∷ bags) final c = elim (Contains-append_cases (map (final_at t) bag) (finals_from (suc t) bags) final c) [
  | inl first ↦ (
      let found = map_of (final_at t) bag final first in
      let e : t ≡ 0 + t = omega arith in
      (0, found.0, found.1, found.2 ∙ ap (λ n. final_at n found.0) e))
  | inr later ↦ (
      let found = of_finals (suc t) bags final later in
      let e : found.0 + suc t ≡ suc found.0 + t = omega arith in
      (suc found.0, found.1, found.2, found.3 ∙ ap (λ n. final_at n found.1) e))
]

pub table_done : (task : Task) → IsSoundTask task → (rounds : List (List (List Entry))) (ends : List (List Entry)) (finals : List Final)
    → IsSearchState task rounds ends → length rounds ≡ task.query.now.transfers + 1 → finals ≡ finals_from 0 ends
    → ((t : ℕ) → t < length ends → IsBag (bag_at ends t)) → AreApartBags ends → IsSearchTable task rounds finals
table_done task sound rounds ends finals state count are bags apart =
    let order = in_order ends bags apart in
    let same : final_triples finals ≡ triples_from 0 ends = ap final_triples are ∙ triples_are 0 ends in
    let both = searches_ended task.feed.now task.times.now task.days.now task.query.now (triples_from 0 ends) (map labels_in rounds) sound.feed
    (map_length rounds ∙ count) state.searched order.0 order.1 in
    record {
      round_count = count;
      widths = state.widths;
      labels = state.entries;
      closed = subst (λ these. IsClosed task.feed.now task.times.now task.days.now task.query.now these (map labels_in rounds)) (sym same) both.0;
      best = λ triple. subst (λ these. Contains these triple ↔ IsParetoBest task.feed.now task.times.now task.days.now task.query.now triple) (sym same) (both.1 triple);
      rising = subst (λ these. AllPairs IsTripleBefore these) (sym same) order.0;
      each_final = subst (All (IsFinal task)) (sym are) (All-from_contains (IsFinal task) (finals_from 0 ends) (λ final c.
          let found = of_finals 0 ends final c in
          let entry : Entry = found.1 in
          let is = state.ends_are found.0 entry found.2 in
          let e : found.0 + 0 ≡ found.0 = omega arith in
          subst (IsFinal task) (sym (found.3 ∙ ap (λ n. final_at n entry) e)) (record {
            label = is.label;
            seconds = is.seconds;
            egress = is.egress;
            deadline = ap (λ p. p.deadline) is.pair;
            arrival = ap (λ p. p.arrival) is.pair;
            walk = ap (λ p. p.walk) is.pair;
            attained = subst (λ p. Attains task.feed.now task.times.now task.days.now task.query.now (rides_of entry.1.now) (triple_with found.0 p)) (sym is.pair)
                (reaches_end task.feed.now task.times.now task.days.now task.query.now found.0 is.seconds (rides_of entry.1.now) (place_of entry.1.now)
                (pair_of entry.1.now) is.label.count is.label.reaches is.egress is.in_time);
          })));
      pruned = λ r i entry final c d few covers.
          let found = of_finals 0 ends final (subst (λ these. Contains these final) are d) in
          let e : final.triple.transfers ≡ found.0 + 0 = ap (λ x. x.triple.transfers) found.3 in
          state.pruned r i found.0 entry found.1 (omega arith) c found.2
          (subst (λ x. CoversPair (pair_of_triple x.triple) entry.0) found.3 covers);
    }
