-- The triples of the ends rise, and none covers another.
use Rattle.std.proofs.Common.{inl, inr, ℕ, suc, ◌<◌, ◌≤◌, ◌≤ℤ◌, List, [], ◌∷◌, ◌++◌, All, AllPairs, Contains, length, map, refl, sym, subst, arith}
use Rattle.std.proofs.lemmas.Bool.{cases_order}
use Rattle.std.proofs.lemmas.Int.{ints}
use Rattle.std.proofs.lemmas.List.Elements.{Contains-append_cases}
use Rattle.flex_model.specs.declared.answer.Pair.{Pair}
use Rattle.flex_model.specs.declared.answer.Triple.{Triple}
use Rattle.flex_model.specs.Triple.{Covers, IsPairBefore, IsTripleBefore, pair_of_triple}
use Rattle.flex_model.proofs.Found.{All-from_contains, AllPairs-at, AllPairs-cons, AllPairs-first, AllPairs-nil, AllPairs-rest, Contains-first, Contains-rest}
use Rattle.label_bag.specs.Bag.{IsApart, IsBag}
use Rattle.round_engine.specs.Bags.{AreApartBags, Entry, bag_at}
use Rattle.round_engine.specs.Flat.{triple_at, triples_from}
use Rattle.round_engine.specs.Table.{FinalsAreInOrder}
use Rattle.round_engine.proofs.Flats.{map_of, of_triples}

-- a comes before b and doesn't cover it
pub record IsApartBefore (a b : Triple) : Type 0 where
  pub before : IsTripleBefore a b
  pub apart : Covers a b → ⊥

pair_before : (t : ℕ) (a b : Entry) → IsApart a.0 b.0 → IsApartBefore (triple_at t a) (triple_at t b)
pair_before t a b is = record {
  before = inr (refl, is.before);
  apart = λ covers. is.uncovered (record { deadline = covers.deadline; arrival = covers.arrival; walk = covers.walk });
}

bag_then : (t : ℕ) (bag : List Entry) (later : List Triple) → IsBag bag → AllPairs IsApartBefore later
    → ((entry : Entry) → Contains bag entry → All (IsApartBefore (triple_at t entry)) later)
    → AllPairs IsApartBefore (map (triple_at t) bag ++ later)
bag_then t [] later bag pairs all = pairs
bag_then t (e ∷ rest) later bag pairs all =
    AllPairs-cons IsApartBefore (triple_at t e) (map (triple_at t) rest ++ later)
    (All-from_contains (IsApartBefore (triple_at t e)) (map (triple_at t) rest ++ later) (λ x c. elim (Contains-append_cases (map (triple_at t) rest) later x c) [
      | inl here ↦ (
          let found = map_of (triple_at t) rest x here in
          subst (IsApartBefore (triple_at t e)) (sym found.2) (pair_before t e found.0 (AllPairs-first (λ a b. IsApart a.0 b.0) e found.0 rest bag found.1)))
      | inr there ↦ subst (IsApartBefore (triple_at t e)) there.2 (all e (Contains-first e rest) there.0 x there.1)
    ]))
    (bag_then t rest later (AllPairs-rest (λ a b. IsApart a.0 b.0) e rest bag) pairs (λ f c. all f (Contains-rest e f rest c)))

ordered : (t : ℕ) (bags : List (List Entry)) → ((i : ℕ) → i < length bags → IsBag (bag_at bags i)) → AreApartBags bags
    → AllPairs IsApartBefore (triples_from t bags)
ordered t [] each apart = AllPairs-nil IsApartBefore
ordered t (bag ∷ bags) each apart =
    bag_then t bag (triples_from (suc t) bags) (each 0 (omega arith))
    (ordered (suc t) bags (λ i lt. each (suc i) (omega arith)) (λ i j a b lt ca cb covers. apart (suc i) (suc j) a b (omega arith) ca cb covers))
    (λ e c. All-from_contains (IsApartBefore (triple_at t e)) (triples_from (suc t) bags) (λ x d.
    let found = of_triples (suc t) bags x d in
    subst (IsApartBefore (triple_at t e)) (sym found.3) (record {
      before = inl (omega arith);
      apart = λ covers. apart 0 (suc found.0) e found.1 (omega arith) c found.2 (record { deadline = covers.deadline; arrival = covers.arrival; walk = covers.walk });
    })))

not_pair_before : (a b : Pair) → IsPairBefore b a → a.arrival ≤ℤ b.arrival → a.walk ≤ b.walk → ⊥
not_pair_before a b (inl less) le short = omega (arith, ints)
not_pair_before a b (inr both) le short = (let lt = both.1 in omega arith)

not_before : (a b : Triple) → IsTripleBefore b a → Covers a b → ⊥
not_before a b (inl less) covers = (let le = covers.transfers in omega arith)
not_before a b (inr both) covers = not_pair_before (pair_of_triple a) (pair_of_triple b) both.1 covers.arrival covers.walk

pub in_order : FinalsAreInOrder
in_order bags each apart =
    let all = ordered 0 bags each apart in (
      λ i j d lt within. (all i j d lt within).before,
      λ i j a b ea eb covers. elim (cases_order i j) [
        | inl same ↦ same
        | inr (inl less) ↦ absurd ((AllPairs-at IsApartBefore (triples_from 0 bags) i j a b all less ea eb).apart covers)
        | inr (inr more) ↦ absurd (not_before a b (AllPairs-at IsApartBefore (triples_from 0 bags) j i b a all (omega arith) eb ea).before covers)
      ],
    )
