-- Labels with the labels before them, as the rides that lead to them.
use Rattle.std.specs.Prelude.{ℕ, Option, Some, None, List, [], ◌∷◌, ◌++◌}
use Rattle.std.specs.Borrow.{Bor}
use Rattle.flex_model.specs.declared.moment.Deadline.{Deadline}
use Rattle.flex_model.specs.declared.moment.Deadline.TheVariants.{Never}
use Rattle.flex_model.specs.declared.place.Place.{Place}
use Rattle.flex_model.specs.declared.ride.Ride.{Ride}
use Rattle.flex_model.specs.declared.answer.Pair.{Pair}
use Rattle.round_engine.specs.declared.label.Label.{Label, Label', Held-Label-parent, None', Some', out-Label}

abbrev mutual
  -- the rides of the label, first ride first
  pub rides_of : Label → List Ride
  rides_of (Label' pair round place ride parent) = rides_behind parent ++ ride ∷ []

  pub rides_behind : Held-Label-parent → List Ride
  rides_behind None' = []
  rides_behind (Some' pointer label) = rides_of label

abbrev pub pair_of : Label → Pair
pair_of label = (out-Label label).pair

abbrev pub round_of : Label → ℕ
round_of label = (out-Label label).round

abbrev pub place_of : Label → Place
place_of label = (out-Label label).place

-- the rides up to the label, and none where there is no label
abbrev pub rides_up_to : Option (Bor Label) → List Ride
rides_up_to None = []
rides_up_to (Some label) = rides_of label.now

-- until when the rides up to the label can be booked
abbrev pub deadline_up_to : Option (Bor Label) → Deadline
deadline_up_to None = Never
deadline_up_to (Some label) = (pair_of label.now).deadline
