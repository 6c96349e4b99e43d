-- What is found of each kind of tests, once some items are tried.
use Rattle.std.proofs.Common.{◌≡◌, inl, inr, ℕ, suc, ◌+◌, ◌<◌, ◌≤◌, IsTrue, Bool, Some, None, length, slice_get, refl, sym, subst, arith}
use Rattle.std.proofs.lemmas.Option.{slice_get_cases}
use Rattle.cert_check.specs.declared.labels.RoundLabel.{RoundLabel}
use Rattle.cert_check.specs.declared.reason.Reason.TheVariants.{TripleDiffers, NotOrdered, FinalUncovered, Uncovered}
use Rattle.cert_check.specs.declared.task.Task.{Task}
use Rattle.flex_model.specs.declared.answer.Answer.{Answer}
use Rattle.flex_model.specs.declared.answer.Triple.{Triple}
use Rattle.flex_model.specs.declared.ride.Ride.{Ride}
use Rattle.flex_model.specs.Triple.{IsTripleBefore}
use Rattle.cert_check.specs.Answers.{IsRealTriple}
use Rattle.cert_check.specs.Ends.{IsEndUncovered}
use Rattle.cert_check.specs.Labels.{labels_of}
use Rattle.cert_check.specs.Numbers.{AllTo}
use Rattle.cert_check.specs.Tasks.{IsFound}
use Rattle.cert_check.specs.Ways.{IsFirstHeld, IsNextUnheld}
use Rattle.cert_check.proofs.KindTests as kinds
use Rattle.cert_check.proofs.Numbered.{none_of_kind, number_from_index, one_of_kind}

module _ (task : Task) where
  abbrev pub HasJourney : ℕ → Answer → Type 0
  HasJourney = kinds.HasJourney task.feed.now task.times.now task.days.now task.query.now task.part.now

  abbrev pub HasTriple : ℕ → Answer → Type 0
  HasTriple = kinds.HasTriple task.feed.now task.times.now task.days.now task.query.now task.part.now

  abbrev pub ComesBefore : ℕ → Answer → Type 0
  ComesBefore = kinds.ComesBefore task.feed.now task.times.now task.days.now task.query.now task.part.now

  abbrev pub HasEnd : ℕ → RoundLabel → Type 0
  HasEnd = kinds.HasEnd task.feed.now task.times.now task.days.now task.query.now task.part.now

  abbrev pub HasRides : ℕ → RoundLabel → Type 0
  HasRides = kinds.HasRides task.feed.now task.times.now task.days.now task.query.now task.part.now

  pub journeys_none : (n : ℕ) → length task.part.now.answers ≤ n → AllTo HasJourney task.part.now.answers n → IsFound task 2 None
  journeys_none n most all =
      none_of_kind HasJourney task.part.now.answers task.feed.now task.times.now task.days.now task.query.now task.part.now 2
      (kinds.journey_tests task.feed.now task.times.now task.days.now task.query.now task.part.now) n most all

  pub triples_none : (n : ℕ) → length task.part.now.answers ≤ n → AllTo HasTriple task.part.now.answers n → IsFound task 3 None
  triples_none n most all =
      none_of_kind HasTriple task.part.now.answers task.feed.now task.times.now task.days.now task.query.now task.part.now 3
      (kinds.triple_tests task.feed.now task.times.now task.days.now task.query.now task.part.now) n most all

  pub triples_some : (n m : ℕ) (answer : Answer) (real : Triple) → m ≡ n + 1 → slice_get task.part.now.answers n ≡ Some answer → IsRealTriple task answer (Some real)
      → AllTo HasTriple task.part.now.answers n → IsFound task 3 (Some (TripleDiffers m answer.triple real))
  triples_some n m answer real e is its all =
      one_of_kind HasTriple task.part.now.answers task.feed.now task.times.now task.days.now task.query.now task.part.now 3
      (kinds.triple_tests task.feed.now task.times.now task.days.now task.query.now task.part.now) n all (TripleDiffers m answer.triple real) refl e refl
      (answer, number_from_index task.part.now.answers n m answer e is, refl, its.0, its.1)

  pub orders_none : (n : ℕ) → length task.part.now.answers ≤ n → AllTo ComesBefore task.part.now.answers n → IsFound task 4 None
  orders_none n most all =
      none_of_kind ComesBefore task.part.now.answers task.feed.now task.times.now task.days.now task.query.now task.part.now 4
      (kinds.order_tests task.feed.now task.times.now task.days.now task.query.now task.part.now) n most all

  pub orders_some : (n m : ℕ) (rises : Bool) → m ≡ n + 1 → n < length task.part.now.answers
      → ((answer next : Answer) → slice_get task.part.now.answers n ≡ Some answer → slice_get task.part.now.answers (n + 1) ≡ Some next
      → IsTripleBefore answer.triple next.triple → IsTrue rises)
      → (length task.part.now.answers ≡ n + 1 → IsTrue rises) → (IsTrue rises → ⊥)
      → AllTo ComesBefore task.part.now.answers n → IsFound task 4 (Some (NotOrdered m))
  orders_some n m rises e lt order last refused all = elim (slice_get_cases task.part.now.answers n).1 [
    | inl here ↦ elim (slice_get_cases task.part.now.answers (n + 1)).1 [
      | inl there ↦ (
          let next : m + 1 ≡ n + 1 + 1 = omega arith in
          one_of_kind ComesBefore task.part.now.answers task.feed.now task.times.now task.days.now task.query.now task.part.now 4
          (kinds.order_tests task.feed.now task.times.now task.days.now task.query.now task.part.now) n all (NotOrdered m) refl e refl (
            here.0,
            there.0,
            number_from_index task.part.now.answers n m here.0 e here.2,
            number_from_index task.part.now.answers (n + 1) (m + 1) there.0 next there.2,
            λ before. refused (order here.0 there.0 here.2 there.2 before),
          ))
      | inr past ↦ (let le = past.0 in let size : length task.part.now.answers ≡ n + 1 = omega arith in absurd (refused (last size)))
    ]
    | inr past ↦ (let le = past.0 in absurd (omega arith))
  ]

  pub ends_none : (n : ℕ) → length (labels_of task.part.now) ≤ n → AllTo HasEnd (labels_of task.part.now) n → IsFound task 7 None
  ends_none n most all =
      none_of_kind HasEnd (labels_of task.part.now) task.feed.now task.times.now task.days.now task.query.now task.part.now 7
      (kinds.end_tests task.feed.now task.times.now task.days.now task.query.now task.part.now) n most all

  pub ends_some : (n m : ℕ) (label : RoundLabel) → m ≡ n + 1 → slice_get (labels_of task.part.now) n ≡ Some label → IsEndUncovered task label
      → AllTo HasEnd (labels_of task.part.now) n → IsFound task 7 (Some (FinalUncovered m))
  ends_some n m label e is its all =
      one_of_kind HasEnd (labels_of task.part.now) task.feed.now task.times.now task.days.now task.query.now task.part.now 7
      (kinds.end_tests task.feed.now task.times.now task.days.now task.query.now task.part.now) n all (FinalUncovered m) refl e refl
      (label, its.0, number_from_index (labels_of task.part.now) n m label e is, its.1, its.2, its.3)

  pub rides_none : ((ride : Ride) → IsFirstHeld task ride) → (n : ℕ) → length (labels_of task.part.now) ≤ n → AllTo HasRides (labels_of task.part.now) n
      → IsFound task 8 None
  rides_none first n most all =
      none_of_kind HasRides (labels_of task.part.now) task.feed.now task.times.now task.days.now task.query.now task.part.now 8
      (kinds.ride_tests task.feed.now task.times.now task.days.now task.query.now task.part.now first) n most all

  pub rides_some : ((ride : Ride) → IsFirstHeld task ride) → (n m : ℕ) (label : RoundLabel) (ride : Ride) → m ≡ n + 1
      → slice_get (labels_of task.part.now) n ≡ Some label → IsNextUnheld task label ride
      → AllTo HasRides (labels_of task.part.now) n → IsFound task 8 (Some (Uncovered m ride))
  rides_some first n m label ride e is its all =
      let number : m ≡ suc n = omega arith in
      subst (λ k. IsFound task 8 (Some (Uncovered k ride))) (sym number)
      (one_of_kind HasRides (labels_of task.part.now) task.feed.now task.times.now task.days.now task.query.now task.part.now 8
      (kinds.ride_tests task.feed.now task.times.now task.days.now task.query.now task.part.now first) n all (Uncovered (suc n) ride) refl (omega arith) refl
      (label, is, its))
