-- The tests of each kind are those of the items of a list.
use Rattle.std.proofs.Common.{◌≡◌, ℕ, zero, suc, ◌+◌, arith}
use Rattle.bound_cert.specs.declared.cert.CertPart.{CertPart}
use Rattle.cert_check.specs.declared.labels.RoundLabel.{RoundLabel}
use Rattle.cert_check.specs.declared.reason.Reason.{Reason}
use Rattle.cert_check.specs.declared.reason.Reason.TheVariants.{Query, Rounds, Journey, TripleDiffers, NotOrdered, Beaten, LabelPlace, FinalUncovered, Uncovered}
use Rattle.flex_model.specs.declared.answer.Answer.{Answer}
use Rattle.flex_model.specs.declared.feed.Feed.{Feed}
use Rattle.flex_model.specs.declared.moment.DayTable.{DayTable}
use Rattle.flex_model.specs.declared.query.Query as query
use Rattle.flex_model.specs.declared.ride.Ride.{Ride}
use Rattle.flex_model.specs.declared.times.Times.{Times}
use Rattle.flex_model.specs.Journey.{Attains, IsLabelPlace, IsPermittedJourney}
use Rattle.cert_check.specs.Labels.{labels_of}
use Rattle.cert_check.specs.Numbers.{IsNumber}
use Rattle.cert_check.specs.Reasons.{IsBeforeNumber, IsEndCovered, IsFirstHeld, IsNextHeld, IsUnbeaten, Passes, kind, number}

module _ (feed : Feed) (times : Times) (days : DayTable) (query : query.Query) (part : CertPart) where
  -- the journey of the answer is permitted
  abbrev pub HasJourney : ℕ → Answer → Type 0
  HasJourney n answer = IsPermittedJourney feed times days query answer.rides

  -- the answer's triple is that of its rides
  abbrev pub HasTriple : ℕ → Answer → Type 0
  HasTriple n answer = Attains feed times days query answer.rides answer.triple

  abbrev pub ComesBefore : ℕ → Answer → Type 0
  ComesBefore n answer = IsBeforeNumber feed times days query part (n + 1) answer

  abbrev pub HasPlace : ℕ → RoundLabel → Type 0
  HasPlace n label = IsLabelPlace feed query label.label.place

  abbrev pub HasEnd : ℕ → RoundLabel → Type 0
  HasEnd n label = IsEndCovered feed times days query part label

  abbrev pub HasRides : ℕ → RoundLabel → Type 0
  HasRides n label = (ride : Ride) → IsNextHeld feed times days query part label ride

  pub query_tests : (reason : Reason) → kind reason ≡ 0 → Passes feed times days query part Query → Passes feed times days query part reason
  query_tests Query e p = p
  query_tests reason e p = absurd (omega arith)

  pub round_tests : (reason : Reason) → kind reason ≡ 1 → Passes feed times days query part Rounds → Passes feed times days query part reason
  round_tests Rounds e p = p
  round_tests reason e p = absurd (omega arith)

  pub journey_tests : (reason : Reason) → kind reason ≡ 2 → ((answer : Answer) → IsNumber part.answers (number reason) answer → HasJourney (number reason) answer)
      → Passes feed times days query part reason
  journey_tests (Journey n flaw) e p = p
  journey_tests reason e p = absurd (omega arith)

  pub triple_tests : (reason : Reason) → kind reason ≡ 3 → ((answer : Answer) → IsNumber part.answers (number reason) answer → HasTriple (number reason) answer)
      → Passes feed times days query part reason
  triple_tests (TripleDiffers n told real) e p = p
  triple_tests reason e p = absurd (omega arith)

  pub order_tests : (reason : Reason) → kind reason ≡ 4 → ((answer : Answer) → IsNumber part.answers (number reason) answer → ComesBefore (number reason) answer)
      → Passes feed times days query part reason
  order_tests (NotOrdered n) e p = p
  order_tests reason e p = absurd (omega arith)

  pub beaten_tests : (reason : Reason) → kind reason ≡ 5 → ((answer : Answer) → IsNumber part.answers (number reason) answer → IsUnbeaten feed times days query part (number reason) answer)
      → Passes feed times days query part reason
  beaten_tests (Beaten n m) e p = λ answer other at its covers. p answer at m other its covers
  beaten_tests reason e p = absurd (omega arith)

  pub place_tests : (reason : Reason) → kind reason ≡ 6 → ((label : RoundLabel) → IsNumber (labels_of part) (number reason) label → HasPlace (number reason) label)
      → Passes feed times days query part reason
  place_tests (LabelPlace n) e p = p
  place_tests reason e p = absurd (omega arith)

  pub end_tests : (reason : Reason) → kind reason ≡ 7 → ((label : RoundLabel) → IsNumber (labels_of part) (number reason) label → HasEnd (number reason) label)
      → Passes feed times days query part reason
  end_tests (FinalUncovered n) e p = p
  end_tests reason e p = absurd (omega arith)

  pub ride_tests : ((ride : Ride) → IsFirstHeld feed times days query part ride)
      → (reason : Reason) → kind reason ≡ 8 → ((label : RoundLabel) → IsNumber (labels_of part) (number reason) label → HasRides (number reason) label)
      → Passes feed times days query part reason
  ride_tests first (Uncovered zero ride) e p = first ride
  ride_tests first (Uncovered (suc n) ride) e p = λ label at. p label at ride
  ride_tests first reason e p = absurd (omega arith)
