-- A ride that is taken from a boarding makes an attained label.
use Rattle.std.proofs.Common.{◌≡◌, ℕ, ◌+◌, ◌≤◌, ℤ, Option, Some, None, [], ◌∷◌, ◌++◌, length, sym, ◌∙◌, ap, subst, arith}
use Rattle.std.specs.Borrow.{Bor}
use Rattle.std.proofs.lemmas.Int.{ints}
use Rattle.std.proofs.lemmas.List.{length_push}
use Rattle.flex_model.specs.declared.moment.Deadline.{Deadline}
use Rattle.flex_model.specs.declared.place.Place.{Place}
use Rattle.flex_model.specs.declared.ride.Ride.{Ride}
use Rattle.flex_model.specs.Change.{HasAccess, HasChange}
use Rattle.flex_model.specs.Deadline.{lesser}
use Rattle.flex_model.specs.Journey.{Reaches, change_walk, counted}
use Rattle.flex_model.specs.LabelTable.{IsOnTheWay, Label as TableLabel}
use Rattle.round_engine.specs.declared.offer.Offer.{Offer}
use Rattle.round_engine.specs.Offers.{LeavesFrom}
use Rattle.round_engine.specs.declared.boarding.Boarding.{Boarding}
use Rattle.round_engine.specs.declared.label.Label.{Label}
use Rattle.round_engine.specs.declared.task.Task.{Task}
use Rattle.round_engine.specs.Attained.{ComesFrom, IsBoarding, IsLabel, IsOfferFrom, IsSoundTask}
use Rattle.round_engine.specs.Chain.{deadline_up_to, pair_of, place_of, rides_of, rides_up_to}
use Rattle.round_engine.specs.Made.{IsMade, made_pair}
use Rattle.flex_model.proofs.Extensions.{first_reaches, next_reaches}

-- the label as one of a table
abbrev pub table_label : Label → TableLabel
table_label label = record {
  place = place_of label;
  deadline = (pair_of label).deadline;
  arrival = (pair_of label).arrival;
  walk = (pair_of label).walk;
}

module _ (task : Task) (sound : IsSoundTask task) (ride : Ride) (deadline : Deadline)
    (way : IsOnTheWay task.feed.now task.times.now task.days.now task.query.now ride deadline) where
  made_reaches : (k : ℕ) (parent : Option (Bor Label)) (place : Place) (moment : ℤ) (walk : ℕ) → ComesFrom task k parent place moment walk
      → LeavesFrom place moment ride → k ≤ task.query.now.transfers
      → (length (rides_up_to parent ++ ride ∷ []) ≡ k + 1)
      × Reaches task.feed.now task.times.now task.days.now task.query.now (rides_up_to parent ++ ride ∷ []) ride.alight
      (record { deadline = lesser (deadline_up_to parent) deadline; arrival = ride.arrives; walk = walk })
  made_reaches k None place moment walk from leaves few =
      let zero_is = from.0 in
      let seconds : ℕ = from.1 in
      let a = from.3 in
      let b = leaves.leaves in (
        omega arith,
        first_reaches task.feed.now task.times.now task.days.now task.query.now sound.feed ride deadline way walk
            (seconds, subst (λ p. HasAccess task.times.now task.query.now p seconds) (sym leaves.boards) from.2, omega (arith, ints), from.4),
      )
  made_reaches k (Some label) place moment walk from leaves few =
      let is = from.0 in
      let seconds : ℕ = from.1 in
      let a = from.3 in
      let b = leaves.leaves in
      let count = is.count in
      let longer = length_push (rides_of label.now) ride in
      let query = task.query.now in
      let here = place_of label.now in (
        omega arith,
        subst (λ n. Reaches task.feed.now task.times.now task.days.now query (rides_of label.now ++ ride ∷ []) ride.alight
            (record { deadline = lesser (pair_of label.now).deadline deadline; arrival = ride.arrives; walk = n })) (sym from.4)
            (next_reaches task.feed.now task.times.now task.days.now query sound.feed ride deadline way k
            (rides_of label.now) (table_label label.now) (counted query (change_walk here place seconds)) few is.count is.reaches (
              seconds,
              subst (λ p. HasChange task.feed.now here p seconds) (sym leaves.boards) from.2,
              omega (arith, ints),
              ap (λ p. counted query (change_walk here p seconds)) (sym leaves.boards),
            )),
      )

pub made_label : (task : Task) → IsSoundTask task → (k : ℕ) (boarding : Boarding) (offer : Offer) (label : Label) → IsBoarding task k boarding
    → IsOfferFrom task boarding offer → k ≤ task.query.now.transfers → IsMade (k + 1) boarding offer label → IsLabel task (k + 1) label
made_label task sound k boarding offer label from of few made =
    let both = made_reaches task sound offer.ride offer.deadline of.on_the_way k boarding.parent boarding.place boarding.earliest boarding.walk from of.leaves few in
    record {
      round = made.round_is;
      count = ap length made.rides ∙ both.0;
      reaches =
          subst (λ p. Reaches task.feed.now task.times.now task.days.now task.query.now (rides_of label) (place_of label) p) (sym made.pair)
          (subst (λ p. Reaches task.feed.now task.times.now task.days.now task.query.now (rides_of label) p (made_pair boarding offer)) (sym made.place)
          (subst (λ r. Reaches task.feed.now task.times.now task.days.now task.query.now r offer.ride.alight (made_pair boarding offer)) (sym made.rides) both.1));
    }
