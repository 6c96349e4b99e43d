-- What a search gives: its labels, and its finals.
--
-- The labels of each round are attained: each one's rides are a partial journey of as many rides as its round, which ends at
-- its place with its pair. The table is closed under the finals' triples. These are just the Pareto-best ones, in order, and
-- each final's label has a journey that has its triple. No label of a round and place covers another one,
-- and they stand in the order of a bag. No label is covered by a final of fewer rides, whose transfers are fewer than the
-- label's rides less one. This project's own.
use Rattle.std.specs.Prelude.{◌≡◌, ◌↔◌, ℕ, suc, ◌+◌, ◌-◌, ◌<◌, pos, ◌+ℤ◌, List, [], ◌∷◌, ◌++◌, All, AllPairs, Contains, length, map}
use Rattle.flex_model.specs.declared.answer.Triple.{Triple}
use Rattle.flex_model.specs.declared.place.Place.{Place}
use Rattle.flex_model.specs.Answer.{IsParetoBest}
use Rattle.flex_model.specs.Change.{HasEgress}
use Rattle.flex_model.specs.Journey.{Attains, counted}
use Rattle.flex_model.specs.LabelTable.{IsClosed}
use Rattle.flex_model.specs.Triple.{CoversPair, IsTripleBefore, pair_of_triple}
use Rattle.label_bag.specs.Bag.{IsBag}
use Rattle.round_engine.specs.declared.label.Final.{Final}
use Rattle.round_engine.specs.declared.task.Task.{Task}
use Rattle.round_engine.specs.Attained.{IsLabel, number_of}
use Rattle.round_engine.specs.Bags.{AreApartBags, Entry, bag_at, round_at}
use Rattle.round_engine.specs.Chain.{pair_of, place_of, rides_of}
use Rattle.round_engine.specs.Flat.{labels_in, triple_at, triples_from}
use Rattle.round_engine.specs.Search.{AreTriplesApart}
use Rattle.round_engine.specs.Searched.{AreEntries}

-- the labels of a round, which counts from 1, at a place
abbrev pub labels_at : List (List (List Entry)) → ℕ → Place → List Entry
labels_at rounds k place =
    bag_at (round_at rounds (k - 1)) (number_of (length (round_at rounds (k - 1)) - 1) place)

abbrev pub final_at : ℕ → Entry → Final
final_at transfers entry = record { triple = triple_at transfers entry; label = entry.1 }

-- the finals of the bags, where the first one has so many transfers
abbrev pub finals_from : ℕ → List (List Entry) → List Final
finals_from transfers [] = []
finals_from transfers (bag ∷ bags) =
    map (final_at transfers) bag ++ finals_from (suc transfers) bags

abbrev pub final_triples : List Final → List Triple
final_triples finals = map (λ final. final.triple) finals

module _ (task : Task) where
  -- The label is one of as many rides as transfers and one, and with the walk to the destination it has the triple.
  pub record IsFinal (final : Final) : Type 0 where
    pub label : IsLabel task (final.triple.transfers + 1) final.label.now
    pub seconds : ℕ
    pub egress : HasEgress task.times.now task.query.now (place_of final.label.now) seconds
    pub deadline : final.triple.deadline ≡ (pair_of final.label.now).deadline
    pub arrival : final.triple.arrival ≡ (pair_of final.label.now).arrival +ℤ pos seconds
    pub walk : final.triple.walk ≡ (pair_of final.label.now).walk + counted task.query.now seconds
    pub attained : Attains task.feed.now task.times.now task.days.now task.query.now
        (rides_of final.label.now) final.triple

  pub record IsSearchTable (rounds : List (List (List Entry))) (finals : List Final) : Type 0 where
    pub round_count : length rounds ≡ task.query.now.transfers + 1
    pub widths : All (λ these. length these ≡ length task.feed.now.stops + 1) rounds
    pub labels : AreEntries task rounds
    pub closed : IsClosed task.feed.now task.times.now task.days.now task.query.now
        (final_triples finals) (map labels_in rounds)
    pub best : (triple : Triple) → Contains (final_triples finals) triple
        ↔ IsParetoBest task.feed.now task.times.now task.days.now task.query.now triple
    pub rising : AllPairs IsTripleBefore (final_triples finals)
    pub each_final : All IsFinal finals
    pub pruned : (r i : ℕ) (entry : Entry) (final : Final)
        → Contains (bag_at (round_at rounds r) i) entry → Contains finals final
        → final.triple.transfers < r → CoversPair (pair_of_triple final.triple) entry.0 → ⊥

-- Bags that are apart, by number of transfers, give triples in order, none of which covers another.
abbrev pub FinalsAreInOrder : Type 0
FinalsAreInOrder = (bags : List (List Entry))
    → ((i : ℕ) → i < length bags → IsBag (bag_at bags i)) → AreApartBags bags
    → AllPairs IsTripleBefore (triples_from 0 bags) × AreTriplesApart (triples_from 0 bags)
