-- A search after one more round.
use Rattle.std.proofs.Common.{◌≡◌, ◌⊎◌, inl, inr, ℕ, zero, suc, ◌+◌, ◌-◌, ◌<◌, ◌≤◌, List, [], ◌∷◌, ◌++◌, All, Contains, length, map, replicate, refl, sym, ap, subst, arith}
use Rattle.std.proofs.lemmas.List.{length_push}
use Rattle.std.proofs.lemmas.List.Elements.{All-push}
use Rattle.round_engine.specs.declared.boarding.Boarding.{Boarding}
use Rattle.round_engine.specs.declared.task.Task.{Task}
use Rattle.round_engine.specs.Attained.{IsEntry, IsRoundState, IsSoundTask}
use Rattle.round_engine.specs.Bags.{BagsGrow, Entry, GainsAtLast, bag_at, round_at}
use Rattle.round_engine.specs.Flat.{AreFirstBoardings, AreNextBoardings, labels_in, triples_from}
use Rattle.round_engine.specs.Ridden.{AreRidden}
use Rattle.round_engine.specs.Search.{AreFinalsWith, IsSearched}
use Rattle.round_engine.specs.Searched.{IsSearchState}
use Rattle.round_engine.proofs.Apart.{in_more}
use Rattle.round_engine.proofs.Flats.{in_round_range, map_length}
use Rattle.round_engine.proofs.RoundDone.{finals_with, next_round}
use Rattle.round_engine.proofs.Rounds.{begun, gone_on}

empty_bag : (n i : ℕ) (x : Entry) → Contains (bag_at (replicate n []) i) x → ⊥
empty_bag zero i x c = (let lt = c.1 in omega arith)
empty_bag (suc n) zero x c = (let lt = c.1 in omega arith)
empty_bag (suc n) (suc i) x c = empty_bag n i x c

length_replicate : (n : ℕ) → length (replicate {A = List Entry} n []) ≡ n
length_replicate zero = refl
length_replicate (suc n) = ap suc (length_replicate n)

-- a round begins without labels
pub round_begins : (task : Task) (earlier : List (List (List Entry))) (ends : List (List Entry)) → IsSearchState task earlier ends
    → length earlier ≤ task.query.now.transfers
    → IsRoundState task earlier (replicate (length task.feed.now.stops + 1) []) (ends ++ [] ∷ [])
round_begins task earlier ends state few = record {
  widths = state.widths;
  width = length_replicate (length task.feed.now.stops + 1);
  count = (let l = length_push ends [] in let c = state.count in omega arith);
  few = few;
  labels = λ i entry c. absurd (empty_bag (length task.feed.now.stops + 1) i entry c);
  ended_in_time = λ i seconds entry c egress in_time. absurd (empty_bag (length task.feed.now.stops + 1) i entry c);
  ends_are = λ t entry c. state.ends_are t entry (in_more ends t entry c);
  pruned = λ i t entry over lt c d covers. empty_bag (length task.feed.now.stops + 1) i entry c;
}

in_pushed : (rounds : List (List (List Entry))) (round : List (List Entry)) (r i : ℕ) (x : Entry) → Contains (bag_at (round_at (rounds ++ round ∷ []) r) i) x
    → Contains (bag_at (round_at rounds r) i) x ⊎ ((r ≡ length rounds) × Contains (bag_at round i) x)
in_pushed [] round zero i x c = inr (refl, c)
in_pushed [] round (suc r) i x c = inl c
in_pushed (a ∷ rest) round zero i x c = inl c
in_pushed (a ∷ rest) round (suc r) i x c = elim (in_pushed rest round r i x c) [
  | inl before ↦ inl before
  | inr new ↦ inr (ap suc new.0, new.1)
]

map_push : (rounds : List (List (List Entry))) (round : List (List Entry)) → map labels_in (rounds ++ round ∷ []) ≡ map labels_in rounds ++ labels_in round ∷ []
map_push [] round = refl
map_push (a ∷ rest) round = ap (λ these. labels_in a ∷ these) (map_push rest round)

-- a round that is done
pub round_ends : (task : Task) → IsSoundTask task → (earlier : List (List (List Entry))) (ends round ends' : List (List Entry)) (boardings : List Boarding)
    → IsSearchState task earlier ends → length earlier ≤ task.query.now.transfers
    → (length earlier ≡ 0 → AreFirstBoardings task boardings)
    → (0 < length earlier → AreNextBoardings task (round_at earlier (length earlier - 1)) boardings)
    → All (AreRidden task earlier round ends') boardings
    → IsRoundState task earlier round ends' → BagsGrow (ends ++ [] ∷ []) ends' → GainsAtLast (ends ++ [] ∷ []) ends'
    → IsSearchState task (earlier ++ round ∷ []) ends'
round_ends task sound earlier ends round ends' boardings state few first next ridden done grow at_last =
    let searched = gone_on task.feed.now task.times.now task.days.now task.query.now (triples_from 0 ends) (triples_from 0 ends') (map labels_in earlier) (labels_in round)
    sound.feed (subst (λ n. n ≤ task.query.now.transfers) (sym (map_length earlier)) few) state.searched
    (next_round task sound earlier round ends' done state.entries boardings ridden first next)
    (subst (λ n. AreFinalsWith task.feed.now task.times.now task.days.now task.query.now (triples_from 0 ends) (n + 1) (labels_in round) (triples_from 0 ends')) (sym (map_length earlier)) (finals_with task sound earlier round ends' done state.entries ends grow)) in
    record {
      searched = subst (IsSearched task.feed.now task.times.now task.days.now task.query.now (triples_from 0 ends')) (sym (map_push earlier round)) searched;
      widths = All-push (λ these. length these ≡ length task.feed.now.stops + 1) earlier round state.widths done.width;
      count = (let l = length_push earlier round in let c = done.count in omega arith);
      entries = λ r i entry c. elim (in_pushed earlier round r i entry c) [
        | inl before ↦ state.entries r i entry before
        | inr new ↦ subst (λ n. IsEntry task (n + 1) i entry) (sym new.0) (done.labels i entry new.1)
      ];
      ends_are = done.ends_are;
      pruned = λ r i t entry over lt c d covers. elim (in_pushed earlier round r i entry c) [
        | inl before ↦ (
            let low = in_round_range earlier r i entry before in
            let count = state.count in
            let l = length_push ends [] in
            state.pruned r i t entry over lt before (in_more ends t over (at_last t over (omega arith) d)) covers)
        | inr new ↦ (let e = new.0 in done.pruned i t entry over (omega arith) new.1 d covers)
      ];
    }

-- no rounds
pub none_searched : (task : Task) → IsSearchState task [] []
none_searched task = record {
  searched = begun task.feed.now task.times.now task.days.now task.query.now;
  widths = λ k d lt. absurd (omega arith);
  count = refl;
  entries = λ r i entry c. absurd (let lt = c.1 in omega arith);
  ends_are = λ t entry c. absurd (let lt = c.1 in omega arith);
  pruned = λ r i t entry over lt c d covers. let few = c.1 in omega arith;
}
