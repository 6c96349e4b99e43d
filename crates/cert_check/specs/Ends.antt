-- What is found of one label. This project's own.
use Rattle.cert_check.specs.declared.labels.RoundLabel.{RoundLabel}
use Rattle.cert_check.specs.declared.task.Task.{Task}
use Rattle.cert_check.specs.Reasons as Reasons
use Rattle.std.specs.Prelude.{◌≡◌, ℕ, ◌+◌, pos, ◌+ℤ◌, ◌≤ℤ◌, Option, Some, None, Contains}
use Rattle.flex_model.specs.declared.answer.Pair.{Pair}
use Rattle.flex_model.specs.declared.answer.Triple.{Triple}
use Rattle.flex_model.specs.Answer.{triples}
use Rattle.flex_model.specs.Change.{HasEgress}
use Rattle.flex_model.specs.Journey.{counted, limit}
use Rattle.flex_model.specs.LabelTable.{triple_of}
use Rattle.flex_model.specs.Triple.{Covers}
use Rattle.cert_check.specs.declared.made.Made.{Made}
use Rattle.bound_cert.specs.Parts.{told_label}
use Rattle.cert_check.specs.Tasks.{pair_of_made}

-- where the destination is reached from the label in time, an answer covers that
abbrev pub IsEndCovered : Task → RoundLabel → Type 0
IsEndCovered task label =
    Reasons.IsEndCovered task.feed.now task.times.now task.days.now task.query.now task.part.now
    label

-- the destination is reached from the label in time, and no answer covers that
abbrev pub IsEndUncovered : Task → RoundLabel → Type 0
IsEndUncovered task label =
    (seconds : ℕ) × HasEgress task.times.now task.query.now label.label.place seconds
    × ((label.label.arrival +ℤ pos seconds) ≤ℤ limit task.query.now)
    × ((triple : Triple) → Contains (triples task.part.now.answers) triple
    → Covers triple (triple_of task.query.now (told_label label.label) seconds label.round) → ⊥)

-- what is reached at the destination from the label in so many seconds
abbrev pub end_after : Task → RoundLabel → ℕ → Pair
end_after task label seconds = record {
  deadline = label.label.deadline;
  arrival = label.label.arrival +ℤ pos seconds;
  walk = label.label.walk + counted task.query.now seconds;
}

-- what is reached at the destination from the label, or none where that is not in time
abbrev pub IsEndOf : Task → RoundLabel → Option Made → Type 0
IsEndOf task label None =
    (seconds : ℕ) → HasEgress task.times.now task.query.now label.label.place seconds
    → (label.label.arrival +ℤ pos seconds) ≤ℤ limit task.query.now → ⊥
IsEndOf task label (Some made) =
    (seconds : ℕ) × HasEgress task.times.now task.query.now label.label.place seconds
    × ((label.label.arrival +ℤ pos seconds) ≤ℤ limit task.query.now)
    × (pair_of_made made ≡ end_after task label seconds)
    × ((other : ℕ) → HasEgress task.times.now task.query.now label.label.place other
    → other ≡ seconds)
