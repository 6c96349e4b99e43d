-- What is found of one answer. This project's own.
use Rattle.std.specs.Prelude.{◌≡◌, ℕ, ◌<◌, List, Option, Some, None, slice_get}
use Rattle.flex_model.specs.declared.answer.Answer.{Answer}
use Rattle.flex_model.specs.declared.answer.Triple.{Triple}
use Rattle.flex_model.specs.declared.flaw.JourneyFlaw.{JourneyFlaw}
use Rattle.flex_model.specs.Flaw.{IsFirstJourneyFlaw}
use Rattle.flex_model.specs.Journey.{Attains, IsPermittedJourney}
use Rattle.flex_model.specs.Triple.{Covers}
use Rattle.cert_check.specs.declared.task.Task.{Task}

-- why the answer's rides are no permitted journey, or none where they are one
abbrev pub IsFlawOf : Task → Answer → Option JourneyFlaw → Type 0
IsFlawOf task answer None =
    IsPermittedJourney task.feed.now task.times.now task.days.now task.query.now answer.rides
IsFlawOf task answer (Some flaw) =
    IsFirstJourneyFlaw task.feed.now task.times.now task.days.now task.query.now answer.rides flaw

-- the triple of the answer's rides, or none where it is the answer's own
abbrev pub IsRealTriple : Task → Answer → Option Triple → Type 0
IsRealTriple task answer None =
    Attains task.feed.now task.times.now task.days.now task.query.now answer.rides answer.triple
IsRealTriple task answer (Some real) =
    Attains task.feed.now task.times.now task.days.now task.query.now answer.rides real
    × (Attains task.feed.now task.times.now task.days.now task.query.now answer.rides
    answer.triple → ⊥)

-- none of the first answers but the one at this index covers the triple
abbrev pub IsUnbeatenBelow : List Answer → ℕ → Triple → ℕ → Type 0
IsUnbeatenBelow answers at triple n =
    (j : ℕ) (other : Answer) → j < n → slice_get answers j ≡ Some other
    → Covers other.triple triple → j ≡ at

-- the index of the first other answer that covers the triple of the answer at this index
abbrev pub IsBetter : List Answer → ℕ → Triple → Option ℕ → Type 0
IsBetter answers at triple None =
    (j : ℕ) (other : Answer) → slice_get answers j ≡ Some other → Covers other.triple triple
    → j ≡ at
IsBetter answers at triple (Some j) =
    (other : Answer) × (slice_get answers j ≡ Some other) × Covers other.triple triple
    × (j ≡ at → ⊥) × IsUnbeatenBelow answers at triple j
