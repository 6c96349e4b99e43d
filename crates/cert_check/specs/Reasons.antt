-- Why a part of a certificate is not valid: the first of its tests that fails.
--
-- Each reason is a test that fails. A part is tried by these tests: its id and whether it asks for
-- walking, the number of its rounds, the journey of each answer, the triple of each answer, the
-- order of each answer and the next one, whether another answer covers an answer, the place of each
-- label, whether the end from each label is covered, and whether rides from the origin and after
-- each label are held. They are tried in this order, and each kind in the order of the answers or
-- labels, which count from 1, labels through all rounds. Rides from the origin come before those
-- after labels. So a part is valid just where it passes each test.
--
-- This project's own.
use Rattle.std.specs.Prelude.{◌≡◌, ◌⊎◌, ℕ, zero, suc, ◌+◌, ◌<◌, ◌≤◌, pos, ◌+ℤ◌, ◌≤ℤ◌, Option, Some, None, Contains, length}
use Rattle.bound_cert.specs.declared.cert.CertPart.{CertPart}
use Rattle.cert_check.specs.declared.labels.RoundLabel.{RoundLabel}
use Rattle.cert_check.specs.declared.reason.Reason.{Reason}
use Rattle.cert_check.specs.declared.reason.Reason.TheVariants.{Query, Rounds, Journey, TripleDiffers, NotOrdered, Beaten, LabelPlace, FinalUncovered, Uncovered}
use Rattle.cert_check.specs.declared.reason.Verdict.{Verdict}
use Rattle.cert_check.specs.declared.reason.Verdict.TheVariants.{Yes, No}
use Rattle.flex_model.specs.declared.answer.Answer.{Answer}
use Rattle.flex_model.specs.declared.answer.Triple.{Triple}
use Rattle.flex_model.specs.declared.feed.Feed.{Feed}
use Rattle.flex_model.specs.declared.moment.DayTable.{DayTable}
use Rattle.flex_model.specs.declared.moment.Deadline.{Deadline}
use Rattle.flex_model.specs.declared.query.Query.{Query as TheQuery}
use Rattle.flex_model.specs.declared.ride.Ride.{Ride}
use Rattle.flex_model.specs.declared.times.Times.{Times}
use Rattle.flex_model.specs.Answer.{triples}
use Rattle.flex_model.specs.Change.{HasEgress}
use Rattle.flex_model.specs.Flaw.{IsFirstJourneyFlaw}
use Rattle.flex_model.specs.Journey.{Attains, IsLabelPlace, IsPermittedJourney, StartsOnFoot, limit}
use Rattle.flex_model.specs.LabelTable.{IsHeld, IsOnTheWay, LeadsTo, first_pair, next_pair, triple_of}
use Rattle.flex_model.specs.Triple.{Covers, IsTripleBefore}
use Rattle.bound_cert.specs.Parts.{IsValidPart, told_label, told_rounds}
use Rattle.cert_check.specs.Labels.{labels_of}
use Rattle.cert_check.specs.Numbers.{IsNumber}

-- the order in which the kinds of tests are tried
abbrev pub kind : Reason → ℕ
kind Query = 0
kind Rounds = 1
kind (Journey answer flaw) = 2
kind (TripleDiffers answer told real) = 3
kind (NotOrdered answer) = 4
kind (Beaten answer by) = 5
kind (LabelPlace label) = 6
kind (FinalUncovered label) = 7
kind (Uncovered from ride) = 8

-- the number of the answer or the label that is tried
abbrev pub number : Reason → ℕ
number Query = 0
number Rounds = 0
number (Journey answer flaw) = answer
number (TripleDiffers answer told real) = answer
number (NotOrdered answer) = answer
number (Beaten answer by) = answer
number (LabelPlace label) = label
number (FinalUncovered label) = label
number (Uncovered from ride) = from

-- the number of the other answer
abbrev pub second : Reason → ℕ
second Query = 0
second Rounds = 0
second (Journey answer flaw) = 0
second (TripleDiffers answer told real) = 0
second (NotOrdered answer) = 0
second (Beaten answer by) = by
second (LabelPlace label) = 0
second (FinalUncovered label) = 0
second (Uncovered from ride) = 0

-- the one test is tried before the other one of its kind
abbrev pub IsTriedBefore : Reason → Reason → Type 0
IsTriedBefore a b =
    (number a < number b) ⊎ ((number a ≡ number b) × (second a < second b))

-- the one test is tried before the other one
abbrev pub Precedes : Reason → Reason → Type 0
Precedes a b = (kind a < kind b) ⊎ ((kind a ≡ kind b) × IsTriedBefore a b)

module _ (feed : Feed) (times : Times) (days : DayTable) (query : TheQuery) (part : CertPart) where
  -- the answer comes before the one with this number
  abbrev pub IsBeforeNumber : ℕ → Answer → Type 0
  IsBeforeNumber n answer =
      (next : Answer) → IsNumber part.answers n next → IsTripleBefore answer.triple next.triple

  -- no answer but that with this number covers the answer
  abbrev pub IsUnbeaten : ℕ → Answer → Type 0
  IsUnbeaten n answer =
      (m : ℕ) (other : Answer) → IsNumber part.answers m other → Covers other.triple answer.triple
      → m ≡ n

  -- where the destination is reached from the label in time, an answer covers that
  abbrev pub IsEndCovered : RoundLabel → Type 0
  IsEndCovered label =
      (seconds : ℕ) → HasEgress times query label.label.place seconds
      → (label.label.arrival +ℤ pos seconds) ≤ℤ limit query
      → (triple : Triple) × Contains (triples part.answers) triple
      × Covers triple (triple_of query (told_label label.label) seconds label.round)

  -- if the ride is one from the origin on the way, it is held
  abbrev pub IsFirstHeld : Ride → Type 0
  IsFirstHeld ride =
      (deadline : Deadline) (walk : ℕ) → IsOnTheWay feed times days query ride deadline
      → StartsOnFoot times query ride walk
      → IsHeld (triples part.answers) (told_rounds part) ride.alight (first_pair ride deadline walk) 1

  -- if the ride is one after the label on the way, it is held
  abbrev pub IsNextHeld : RoundLabel → Ride → Type 0
  IsNextHeld label ride =
      (deadline : Deadline) (walk : ℕ) → label.round ≤ query.transfers
      → IsOnTheWay feed times days query ride deadline
      → LeadsTo feed query (told_label label.label) ride walk
      → IsHeld (triples part.answers) (told_rounds part) ride.alight
      (next_pair (told_label label.label) ride deadline walk) (label.round + 1)

  -- the part passes the test for which the reason is named
  abbrev pub Passes : Reason → Type 0
  Passes Query = (part.query ≡ query.id) × (part.walking ≡ query.walking)
  Passes Rounds = length part.rounds ≡ query.transfers + 1
  Passes (Journey n flaw) =
      (answer : Answer) → IsNumber part.answers n answer
      → IsPermittedJourney feed times days query answer.rides
  Passes (TripleDiffers n told real) =
      (answer : Answer) → IsNumber part.answers n answer
      → Attains feed times days query answer.rides answer.triple
  Passes (NotOrdered n) =
      (answer : Answer) → IsNumber part.answers n answer → IsBeforeNumber (n + 1) answer
  Passes (Beaten n m) =
      (answer other : Answer) → IsNumber part.answers n answer → IsNumber part.answers m other
      → Covers other.triple answer.triple → m ≡ n
  Passes (LabelPlace n) =
      (label : RoundLabel) → IsNumber (labels_of part) n label
      → IsLabelPlace feed query label.label.place
  Passes (FinalUncovered n) =
      (label : RoundLabel) → IsNumber (labels_of part) n label → IsEndCovered label
  Passes (Uncovered zero ride) = IsFirstHeld ride
  Passes (Uncovered (suc n) ride) =
      (label : RoundLabel) → IsNumber (labels_of part) (suc n) label → IsNextHeld label ride

  -- the ride is one from the origin on the way, and isn't held
  abbrev pub IsFirstUnheld : Ride → Type 0
  IsFirstUnheld ride =
      (deadline : Deadline) × (walk : ℕ) × IsOnTheWay feed times days query ride deadline
      × StartsOnFoot times query ride walk
      × (IsHeld (triples part.answers) (told_rounds part) ride.alight
      (first_pair ride deadline walk) 1 → ⊥)

  -- the ride is one after the label on the way, and isn't held
  abbrev pub IsNextUnheld : RoundLabel → Ride → Type 0
  IsNextUnheld label ride =
      (deadline : Deadline) × (walk : ℕ) × (label.round ≤ query.transfers)
      × IsOnTheWay feed times days query ride deadline
      × LeadsTo feed query (told_label label.label) ride walk
      × (IsHeld (triples part.answers) (told_rounds part) ride.alight
      (next_pair (told_label label.label) ride deadline walk) (label.round + 1) → ⊥)

  -- the reason is true of the part
  abbrev pub Applies : Reason → Type 0
  Applies Query = part.query ≡ query.id → part.walking ≡ query.walking → ⊥
  Applies Rounds = length part.rounds ≡ query.transfers + 1 → ⊥
  Applies (Journey n flaw) =
      (answer : Answer) × IsNumber part.answers n answer
      × IsFirstJourneyFlaw feed times days query answer.rides flaw
  Applies (TripleDiffers n told real) =
      (answer : Answer) × IsNumber part.answers n answer × (answer.triple ≡ told)
      × Attains feed times days query answer.rides real
      × (Attains feed times days query answer.rides told → ⊥)
  Applies (NotOrdered n) =
      (answer next : Answer) × IsNumber part.answers n answer × IsNumber part.answers (n + 1) next
      × (IsTripleBefore answer.triple next.triple → ⊥)
  Applies (Beaten n m) =
      (answer other : Answer) × IsNumber part.answers n answer × IsNumber part.answers m other
      × Covers other.triple answer.triple × (m ≡ n → ⊥)
  Applies (LabelPlace n) =
      (label : RoundLabel) × IsNumber (labels_of part) n label
      × (IsLabelPlace feed query label.label.place → ⊥)
  Applies (FinalUncovered n) =
      (label : RoundLabel) × (seconds : ℕ) × IsNumber (labels_of part) n label
      × HasEgress times query label.label.place seconds
      × ((label.label.arrival +ℤ pos seconds) ≤ℤ limit query)
      × ((triple : Triple) → Contains (triples part.answers) triple
      → Covers triple (triple_of query (told_label label.label) seconds label.round) → ⊥)
  Applies (Uncovered zero ride) = IsFirstUnheld ride
  Applies (Uncovered (suc n) ride) =
      (label : RoundLabel) × IsNumber (labels_of part) (suc n) label × IsNextUnheld label ride

  -- the reason is true, and the part passes each test that is tried before its own
  pub record IsFirstReason (reason : Reason) : Type 0 where
    pub applies : Applies reason
    pub first : (other : Reason) → Precedes other reason → Passes other

  -- the part is valid, or it is not, and the reason is the first one
  abbrev pub IsVerdict : Verdict → Type 0
  IsVerdict Yes = IsValidPart feed times days query part
  IsVerdict (No reason) = IsFirstReason reason × (IsValidPart feed times days query part → ⊥)

  -- the first test of the kind that fails, if there is one
  abbrev pub IsFirstOfKind : ℕ → Option Reason → Type 0
  IsFirstOfKind k None = (reason : Reason) → kind reason ≡ k → Passes reason
  IsFirstOfKind k (Some reason) =
      (kind reason ≡ k) × Applies reason
      × ((other : Reason) → kind other ≡ k → IsTriedBefore other reason → Passes other)
