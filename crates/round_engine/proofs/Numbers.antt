-- The number of a label's place is one of a round's.
use Rattle.std.proofs.Common.{inl, inr, ℕ, ◌+◌, ◌<◌, length, sym, subst, arith}
use Rattle.std.proofs.lemmas.Option.{slice_get_within}
use Rattle.flex_model.specs.declared.place.Place.{Place}
use Rattle.flex_model.specs.declared.place.Place.TheVariants.{Stop, Point}
use Rattle.flex_model.specs.Journey.{IsLabelPlace}
use Rattle.flex_model.specs.Place.{HasBoards}
use Rattle.flex_model.specs.SoundQuery.{IsQueryPlace}
use Rattle.round_engine.specs.declared.task.Task.{Task}
use Rattle.round_engine.specs.Attained.{IsSoundTask, number_of}

boards_within : (task : Task) (s : ℕ) → HasBoards task.feed.now s → s < length task.feed.now.stops + 1
boards_within task s boards = (let lt = slice_get_within task.feed.now.stops s boards.0 boards.1 in omega arith)

pub number_within : (task : Task) → IsSoundTask task → (place : Place) → IsLabelPlace task.feed.now task.query.now place
    → number_of (length task.feed.now.stops) place < length task.feed.now.stops + 1
number_within task sound (Stop s) (inl boards) = boards_within task s boards
number_within task sound (Stop s) (inr e) =
    boards_within task s (subst (IsQueryPlace task.feed.now task.times.now) (sym e) sound.query.destination)
number_within task sound (Point p) h = omega arith
