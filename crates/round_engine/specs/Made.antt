-- What a ride makes of the label before it. This project's own.
use Rattle.std.specs.Prelude.{◌≡◌, ℕ, [], ◌∷◌, ◌++◌}
use Rattle.flex_model.specs.declared.answer.Pair.{Pair}
use Rattle.flex_model.specs.Deadline.{lesser}
use Rattle.round_engine.specs.declared.boarding.Boarding.{Boarding}
use Rattle.round_engine.specs.declared.label.Label.{Label}
use Rattle.round_engine.specs.declared.offer.Offer.{Offer}
use Rattle.round_engine.specs.Chain.{deadline_up_to, pair_of, place_of, rides_of, rides_up_to, round_of}

-- the pair after the offered ride: the walk is that of the boarding
abbrev pub made_pair : Boarding → Offer → Pair
made_pair boarding offer = record {
  deadline = lesser (deadline_up_to boarding.parent) offer.deadline;
  arrival = offer.ride.arrives;
  walk = boarding.walk;
}

-- the label is that of the offered ride after the boarding
pub record IsMade (round : ℕ) (boarding : Boarding) (offer : Offer) (label : Label) : Type 0 where
  pub pair : pair_of label ≡ made_pair boarding offer
  pub round_is : round_of label ≡ round
  pub place : place_of label ≡ offer.ride.alight
  pub rides : rides_of label ≡ rides_up_to boarding.parent ++ offer.ride ∷ []
