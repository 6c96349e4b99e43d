-- Lists that gain boardings. This project's own.
use Rattle.std.specs.Prelude.{◌≡◌, ◌≢◌, ℕ, ◌+◌, pos, ◌+ℤ◌, List, All, Contains}
use Rattle.flex_model.specs.Change.{HasChange}
use Rattle.flex_model.specs.declared.moment.Deadline.TheVariants.{Never}
use Rattle.flex_model.specs.declared.times.Span.{Span}
use Rattle.flex_model.specs.Place.{IsStop}
use Rattle.flex_model.specs.declared.change.ChangeKind.TheVariants.{Least}
use Rattle.flex_model.specs.declared.change.ChangeRow.{ChangeRow}
use Rattle.flex_model.specs.declared.place.Place.{Place}
use Rattle.flex_model.specs.declared.place.Place.TheVariants.{Stop}
use Rattle.flex_model.specs.Journey.{change_walk, counted}
use Rattle.round_engine.specs.declared.boarding.Boarding.{Boarding}
use Rattle.round_engine.specs.declared.label.Label.{Label}
use Rattle.round_engine.specs.declared.task.Task.{Task}
use Rattle.round_engine.specs.Attained.{IsBoarding, IsLabel}
use Rattle.round_engine.specs.Bags.{Entry}
use Rattle.round_engine.specs.Chain.{pair_of, place_of}
use Rattle.round_engine.specs.Flat.{IsBoarded}

-- the list gains boardings after labels of round k, or from the origin, and loses none
pub record GainsBoardings (task : Task) (k : ℕ) (old new : List Boarding) : Type 0 where
  pub sound : All (IsBoarding task k) old → All (IsBoarding task k) new
  pub kept : (boarding : Boarding) → Contains old boarding → Contains new boarding

-- one can board at the place, so many seconds after the label
abbrev pub IsBoardedAfter : Task → Label → List Boarding → Place → ℕ → Type 0
IsBoardedAfter task label boardings place seconds =
    IsBoarded boardings place ((pair_of label).arrival +ℤ pos seconds) (pair_of label).deadline
    ((pair_of label).walk + counted task.query.now (change_walk (place_of label) place seconds))

-- the rule is one for changing from the label's stop
pub record IsRuleAfter (task : Task) (label : Label) (row : ChangeRow) : Type 0 where
  pub among : Contains task.feed.now.changes row
  pub from : place_of label ≡ Stop row.from

-- where the rule lets one change to another stop, one can board there after the label
abbrev pub IsRuleBoarded : Task → Label → List Boarding → ChangeRow → Type 0
IsRuleBoarded task label boardings row = (seconds : ℕ) → row.kind ≡ Least seconds
    → row.to ≢ row.from → IsBoardedAfter task label boardings (Stop row.to) seconds

-- one can board wherever one can change to after the label
abbrev pub AreChangesBoarded : Task → Label → List Boarding → Type 0
AreChangesBoarded task label boardings = (place : Place) (seconds : ℕ)
    → HasChange task.feed.now (place_of label) place seconds
    → IsBoardedAfter task label boardings place seconds

-- each label of the bag is one of round k
abbrev pub AreLabelsOf : Task → ℕ → List Entry → Type 0
AreLabelsOf task k bag = All (λ entry. IsLabel task k entry.1.now) bag

-- one can board wherever one can change to after the labels of the bag
abbrev pub IsBagBoarded : Task → List Boarding → List Entry → Type 0
IsBagBoarded task boardings bag =
    (entry : Entry) → Contains bag entry → AreChangesBoarded task entry.1.now boardings

-- the span is a walk from the origin
pub record IsWalkAway (task : Task) (span : Span) : Type 0 where
  pub among : Contains task.times.now.walks span
  pub from : span.from ≡ task.query.now.origin

-- where the walk leads to another stop, one can board there
abbrev pub IsWalkBoarded : Task → List Boarding → Span → Type 0
IsWalkBoarded task boardings span = IsStop span.to → span.to ≢ task.query.now.origin
    → IsBoarded boardings span.to (task.query.now.depart +ℤ pos span.seconds) Never
    (counted task.query.now span.seconds)
