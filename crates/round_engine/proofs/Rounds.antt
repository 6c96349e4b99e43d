-- A search by rounds begins, goes on, and ends with the Pareto-best triples.
use Rattle.std.proofs.Common.{◌≡◌, ◌⊎◌, inl, inr, ℕ, zero, suc, ◌+◌, ◌<◌, ◌≤◌, pos, ◌+ℤ◌, ◌≤ℤ◌, List, [], ◌∷◌, ◌++◌, Some, All, AllPairs, Contains, length, slice_get, refl, sym, ap, subst, arith}
use Rattle.std.proofs.lemmas.List.{length_push}
use Rattle.std.proofs.lemmas.Bool.{cases_order}
use Rattle.std.proofs.lemmas.Int.{ints}
use Rattle.std.proofs.lemmas.Option.{none-some, slice_get_within, same_Some}
use Rattle.flex_model.specs.declared.answer.Answer.{Answer}
use Rattle.flex_model.specs.declared.answer.Pair.{Pair}
use Rattle.flex_model.specs.declared.answer.Triple.{Triple}
use Rattle.flex_model.specs.declared.feed.Feed.{Feed}
use Rattle.flex_model.specs.declared.moment.DayTable.{DayTable}
use Rattle.flex_model.specs.declared.moment.Deadline.{Deadline}
use Rattle.flex_model.specs.declared.place.Place.{Place}
use Rattle.flex_model.specs.declared.query.Query.{Query}
use Rattle.flex_model.specs.declared.ride.Ride.{Ride}
use Rattle.flex_model.specs.declared.times.Times.{Times}
use Rattle.flex_model.specs.Answer.{IsExactAnswer, triples}
use Rattle.flex_model.specs.Change.{HasEgress}
use Rattle.flex_model.specs.Journey.{Attains, IsLabelPlace, StartsOnFoot, limit}
use Rattle.flex_model.specs.LabelTable.{IsAttained, IsClosed, IsHeld, IsHeldByTriple, IsInRound, IsOnTheWay, Label, LeadsTo, first_pair, next_pair, triple_of}
use Rattle.flex_model.specs.SoundFeed.{IsSoundFeed}
use Rattle.flex_model.specs.Triple.{Covers, IsTripleBefore}
use Rattle.flex_model.proofs.Certificates.{certified_exact}
use Rattle.flex_model.proofs.Found.{All-from_contains, Contains-first, Contains-rest, first_or_rest, index_of, none_contained}
use Rattle.flex_model.proofs.Orders.{Covers_trans, IsNoLater_trans}
use Rattle.round_engine.specs.Search.{AreFinalsWith, AreTriplesApart, IsImproved, IsNextRound, IsSearched, SearchesBegin, SearchesEnd, SearchesGoOn}

-- an item keeps its index in a longer list
slice_get-append : {A : Type 0} (xs ys : List A) (k : ℕ) (x : A) → slice_get xs k ≡ Some x → slice_get (xs ++ ys) k ≡ Some x
slice_get-append [] ys k x e = absurd (none-some x e)
slice_get-append (a ∷ xs) ys zero x e = e
slice_get-append (a ∷ xs) ys (suc k) x e = slice_get-append xs ys k x e

-- an item of a list with one more is an earlier one or the new one
slice_get-more : {A : Type 0} (xs : List A) (y : A) (k : ℕ) (x : A) → slice_get (xs ++ y ∷ []) k ≡ Some x → (slice_get xs k ≡ Some x) ⊎ ((k ≡ length xs) × (x ≡ y))
slice_get-more [] y zero x e = inr (refl, same_Some x y (sym e))
slice_get-more [] y (suc k) x e = absurd (none-some x e)
slice_get-more (a ∷ xs) y zero x e = inl e
slice_get-more (a ∷ xs) y (suc k) x e = elim (slice_get-more xs y k x e) [
  | inl f ↦ inl f
  | inr both ↦ inr (ap suc both.0, both.1)
]

-- a label keeps its round when one more round comes
in_more_rounds : (rounds : List (List Label)) (labels : List Label) (k : ℕ) (label : Label) → IsInRound rounds k label → IsInRound (rounds ++ labels ∷ []) k label
in_more_rounds rounds labels zero label h = absurd h
in_more_rounds rounds labels (suc k) label h = (h.0, slice_get-append rounds (labels ∷ []) k h.0 h.1, h.2)

-- a label of a round is of an earlier one or of the new one
round_cases : (rounds : List (List Label)) (labels : List Label) (k : ℕ) (label : Label) → IsInRound (rounds ++ labels ∷ []) k label
    → (IsInRound rounds k label × (k ≤ length rounds)) ⊎ ((k ≡ length rounds + 1) × Contains labels label)
round_cases rounds labels zero label h = absurd h
round_cases rounds labels (suc k) label h = elim (slice_get-more rounds labels k h.0 h.1) [
  | inl e ↦ (let lt = slice_get_within rounds k h.0 e in inl ((h.0, e, h.2), omega arith))
  | inr both ↦ (let e = both.0 in inr (omega arith, subst (λ these. Contains these label) both.1 h.2))
]

held_by_better : (finals better : List Triple) (pair : Pair) (k : ℕ) → IsImproved finals better → IsHeldByTriple finals pair k → IsHeldByTriple better pair k
held_by_better finals better pair k improved held =
    let found = improved held.triple held.is_printed in
    let other : Triple = found.0 in
    let covers : Covers other held.triple = found.2 in
    let a = covers.arrival in
    let b = held.covers.arrival in
    let c = covers.transfers in
    let d = held.few in
    let e = covers.walk in
    let f = held.covers.walk in
    record {
      triple = other;
      is_printed = found.1;
      few = omega arith;
      covers = record {
        deadline = IsNoLater_trans pair.deadline held.triple.deadline other.deadline held.covers.deadline covers.deadline;
        arrival = omega (arith, ints);
        walk = omega arith;
      };
    }

-- what is held stays held with better finals and one more round
pub held_on : (finals better : List Triple) (rounds : List (List Label)) (labels : List Label) (place : Place) (pair : Pair) (k : ℕ) → IsImproved finals better
    → IsHeld finals rounds place pair k → IsHeld better (rounds ++ labels ∷ []) place pair k
held_on finals better rounds labels place pair k improved (inl held) =
    inl (record { round = held.round; label = held.label; in_round = in_more_rounds rounds labels held.round held.label held.in_round; early = held.early; at_place = held.at_place; covers = held.covers })
held_on finals better rounds labels place pair k improved (inr held) = inr (held_by_better finals better pair k improved held)

pub begun : SearchesBegin
begun feed times days query = record {
  first = λ ride deadline walk some way starts. absurd (omega arith);
  next = λ k label ride deadline walk h some way leads. absurd (omega arith);
  last = λ k label seconds h egress ends. absurd (none k label h);
  attained = λ k label h. absurd (none k label h);
  journeys = λ triple c. absurd (none_contained triple c);
}
  where
    none : (k : ℕ) (label : Label) → IsInRound [] k label → ⊥
    none zero label h = h
    none (suc k) label h = none-some h.0 h.1

module _ (feed : Feed) (times : Times) (days : DayTable) (query : Query) (finals better : List Triple) (rounds : List (List Label)) (labels : List Label)
    (sound : IsSoundFeed feed) (few : length rounds ≤ query.transfers) (searched : IsSearched feed times days query finals rounds)
    (new : IsNextRound feed times days query better rounds labels) (ended : AreFinalsWith feed times days query finals (length rounds + 1) labels better) where
  more : List (List Label)
  more = rounds ++ labels ∷ []

  of_new : (label : Label) → Contains labels label → IsAttained feed times days query (length rounds + 1) label
  of_new label c = new.attained label c

  attained : (k : ℕ) (label : Label) → IsInRound (rounds ++ labels ∷ []) k label → IsAttained feed times days query k label
  attained k label h = elim (round_cases rounds labels k label h) [
    | inl old ↦ searched.attained k label old.0
    | inr both ↦ subst (λ n. IsAttained feed times days query n label) (sym both.0) (of_new label both.1)
  ]

  first : (ride : Ride) (deadline : Deadline) (walk : ℕ) → IsOnTheWay feed times days query ride deadline → StartsOnFoot times query ride walk
      → IsHeld better (rounds ++ labels ∷ []) ride.alight (first_pair ride deadline walk) 1
  first ride deadline walk way starts = by_length (length rounds) refl
    where
      by_length : (n : ℕ) → length rounds ≡ n → IsHeld better (rounds ++ labels ∷ []) ride.alight (first_pair ride deadline walk) 1
      by_length zero e = new.first ride deadline walk e way starts
      by_length (suc n) e = held_on finals better rounds labels ride.alight (first_pair ride deadline walk) 1 ended.improved (searched.first ride deadline walk (omega arith) way starts)

  of_last : (label : Label) (ride : Ride) (deadline : Deadline) (walk : ℕ) → IsOnTheWay feed times days query ride deadline → LeadsTo feed query label ride walk
      → (k : ℕ) → k ≡ length rounds → IsInRound rounds k label → IsHeld better (rounds ++ labels ∷ []) ride.alight (next_pair label ride deadline walk) (k + 1)
  of_last label ride deadline walk way leads k same h =
      subst (λ n. IsHeld better (rounds ++ labels ∷ []) ride.alight (next_pair label ride deadline walk) (n + 1)) (sym same)
      (new.next label ride deadline walk (subst (λ n. IsInRound rounds n label) same h) way leads)

  next : (k : ℕ) (label : Label) (ride : Ride) (deadline : Deadline) (walk : ℕ) → IsInRound (rounds ++ labels ∷ []) k label → k < length (rounds ++ labels ∷ [])
      → IsOnTheWay feed times days query ride deadline → LeadsTo feed query label ride walk
      → IsHeld better (rounds ++ labels ∷ []) ride.alight (next_pair label ride deadline walk) (k + 1)
  next k label ride deadline walk h lt way leads = elim (round_cases rounds labels k label h) [
    | inl old ↦ elim (cases_order k (length rounds)) [
      | inl same ↦ of_last label ride deadline walk way leads k same old.0
      | inr (inl before) ↦ held_on finals better rounds labels ride.alight (next_pair label ride deadline walk) (k + 1) ended.improved (searched.next k label ride deadline walk old.0 before way leads)
      | inr (inr after) ↦ (let le = old.1 in absurd (omega arith))
    ]
    | inr both ↦ (let e = both.0 in let l = length_push rounds labels in absurd (omega arith))
  ]

  last : (k : ℕ) (label : Label) (seconds : ℕ) → IsInRound (rounds ++ labels ∷ []) k label → HasEgress times query label.place seconds
      → (label.arrival +ℤ pos seconds) ≤ℤ limit query → (triple : Triple) × Contains better triple × Covers triple (triple_of query label seconds k)
  last k label seconds h egress ends = elim (round_cases rounds labels k label h) [
    | inl old ↦ (
        let found = searched.last k label seconds old.0 egress ends in
        let over = ended.improved found.0 found.1 in
        (over.0, over.1, Covers_trans over.0 found.0 (triple_of query label seconds k) over.2 found.2))
    | inr both ↦ (
        let found = ended.covered label seconds both.1 egress ends in
        (found.0, found.1, subst (λ n. Covers found.0 (triple_of query label seconds n)) (sym both.0) found.2))
  ]

  journeys : (triple : Triple) → Contains better triple → (rides : List Ride) × Attains feed times days query rides triple
  journeys triple c = elim (ended.attained triple c) [
    | inl old ↦ searched.journeys triple old
    | inr found ↦ found
  ]

pub gone_on : SearchesGoOn
gone_on feed times days query finals better rounds labels sound few searched new ended = record {
  first = λ ride deadline walk some way starts. first feed times days query finals better rounds labels sound few searched new ended ride deadline walk way starts;
  next = next feed times days query finals better rounds labels sound few searched new ended;
  last = last feed times days query finals better rounds labels sound few searched new ended;
  attained = attained feed times days query finals better rounds labels sound few searched new ended;
  journeys = journeys feed times days query finals better rounds labels sound few searched new ended;
}

-- answers with given triples
answered : (feed : Feed) (times : Times) (days : DayTable) (query : Query) (finals : List Triple)
    → ((triple : Triple) → Contains finals triple → (rides : List Ride) × Attains feed times days query rides triple)
    → (answers : List Answer) × (triples answers ≡ finals) × ((answer : Answer) → Contains answers answer → Attains feed times days query answer.rides answer.triple)
answered feed times days query [] journeys = ([], refl, λ answer c. absurd (none_contained answer c))
answered feed times days query (t ∷ ts) journeys =
    let rest = answered feed times days query ts (λ triple c. journeys triple (Contains-rest t triple ts c)) in
    let found = journeys t (Contains-first t ts) in
    let answer : Answer = record { triple = t; rides = found.0 } in (
      answer ∷ rest.0,
      ap (λ these. t ∷ these) rest.1,
      λ other c. elim (first_or_rest answer other rest.0 c) [
        | inl e ↦ subst (λ a. Attains feed times days query a.rides a.triple) (sym e) found.1
        | inr later ↦ rest.2 other later
      ],
    )

module _ (feed : Feed) (times : Times) (days : DayTable) (query : Query) (finals : List Triple) (rounds : List (List Label))
    (sound : IsSoundFeed feed) (count : length rounds ≡ query.transfers + 1) (searched : IsSearched feed times days query finals rounds)
    (rising : AllPairs IsTripleBefore finals) (apart : AreTriplesApart finals) where
  closed : IsClosed feed times days query finals rounds
  closed = record {
    first = λ ride deadline walk way starts. searched.first ride deadline walk (omega arith) way starts;
    next = λ k label ride deadline walk h few way leads. searched.next k label ride deadline walk h (omega arith) way leads;
    last = searched.last;
  }

  places : All (λ labels. All (λ label. IsLabelPlace feed query label.place) labels) rounds
  places = All-from_contains (λ labels. All (λ label. IsLabelPlace feed query label.place) labels) rounds (λ labels c.
      All-from_contains (λ label. IsLabelPlace feed query label.place) labels (λ label d.
      let found = index_of rounds labels c in
      let reaches = (searched.attained (suc found.0) label (labels, found.1, d)).2 in
      subst (IsLabelPlace feed query) reaches.at_place reaches.journey.place))

  exact : (answers : List Answer) × (triples answers ≡ finals) × IsExactAnswer feed times days query answers
  exact =
      let made = answered feed times days query finals searched.journeys in
      let answers : List Answer = made.0 in
      let same : finals ≡ triples answers = sym made.1 in (
        answers,
        made.1,
        certified_exact feed times days query answers rounds sound (record {
          round_count = count;
          attained = All-from_contains (λ answer. Attains feed times days query answer.rides answer.triple) answers made.2;
          rising = subst (AllPairs IsTripleBefore) same rising;
          apart = subst AreTriplesApart same apart;
          places = places;
          closed = subst (λ these. IsClosed feed times days query these rounds) same closed;
        }),
      )

pub ended : SearchesEnd
ended feed times days query finals rounds sound count searched rising apart =
    let found = exact feed times days query finals rounds sound count searched rising apart in (
      closed feed times days query finals rounds sound count searched rising apart,
      λ triple. (
        λ c. found.2.best triple (subst (λ these. Contains these triple) (sym found.1) c),
        λ best. subst (λ these. Contains these triple) found.1 (found.2.complete triple best),
      ),
    )
