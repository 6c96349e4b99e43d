-- Rides from the origin and after a label, by where they are boarded.
use Rattle.std.proofs.Common.{◌≡◌, ◌⊎◌, ◌↔◌, inl, inr, ℕ, ◌+◌, ◌<◌, ◌≤◌, pos, ◌+ℤ◌, ◌≤ℤ◌, List, Option, Some, None, All, Contains, refl, sym, ◌∙◌, ap, subst, arith}
use Rattle.std.proofs.lemmas.Int.{ints}
use Rattle.std.proofs.lemmas.List.Elements.{All-contains}
use Rattle.std.proofs.lemmas.Option.{none-some, same_Some}
use Rattle.cert_check.specs.declared.labels.RoundLabel.{RoundLabel}
use Rattle.cert_check.specs.declared.made.Boarded.{Boarded}
use Rattle.cert_check.specs.declared.task.Task.{Task}
use Rattle.flex_model.specs.declared.change.ChangeKind.TheVariants.{Least}
use Rattle.flex_model.specs.declared.change.ChangeRow.{ChangeRow}
use Rattle.flex_model.specs.declared.moment.Deadline.TheVariants.{Never}
use Rattle.flex_model.specs.declared.place.Place.{Place}
use Rattle.flex_model.specs.declared.place.Place.TheVariants.{Stop, Point}
use Rattle.flex_model.specs.declared.ride.Ride.{Ride}
use Rattle.flex_model.specs.declared.times.Span.{Span}
use Rattle.flex_model.specs.Change.{HasAccess, HasChange}
use Rattle.flex_model.specs.Journey.{change_walk, counted, limit}
use Rattle.flex_model.specs.LabelTable.{first_pair, next_pair}
use Rattle.flex_model.proofs.Certificates.{ride_forwards}
use Rattle.bound_cert.specs.Parts.{told_label}
use Rattle.cert_check.specs.Tasks.{IsHeldIn, IsSoundTask, IsUnheldFrom}
use Rattle.cert_check.specs.Ways.{AreFirstHeld, AreNextHeld, IsFirstHeld, IsNextHeld, IsUnheldAccess, IsUnheldChange, IsUnheldFirst, IsUnheldNext, IsUnheldRule, IsUnheldWalk}

-- ---- from the origin

abbrev pub boarded_first : Task → ℕ → Boarded
boarded_first task seconds = record { deadline = Never; walk = counted task.query.now seconds; round = 1 }

module _ (task : Task) (place : Place) (found : Option ℕ)
    (access : (seconds : ℕ) → HasAccess task.times.now task.query.now place seconds ↔ (found ≡ Some seconds)) where
  pub no_access : found ≡ None → AreFirstHeld task place
  no_access none ride at deadline walk way starts =
      let its = (access starts.0).0 (subst (λ p. HasAccess task.times.now task.query.now p starts.0) at starts.1) in
      absurd (none-some starts.0 (sym none ∙ its))

  pub some_access : (seconds : ℕ) → found ≡ Some seconds → (ride : Option Ride)
      → IsUnheldFrom task (boarded_first task seconds) place (task.query.now.depart +ℤ pos seconds) ride → IsUnheldAccess task place ride
  some_access seconds some None all = λ ride at deadline walk way starts.
      let its = (access starts.0).0 (subst (λ p. HasAccess task.times.now task.query.now p starts.0) at starts.1) in
      let same : seconds ≡ starts.0 = same_Some seconds starts.0 (sym some ∙ its) in
      let leaves : (task.query.now.depart +ℤ pos seconds) ≤ℤ ride.departs =
      subst (λ n. (task.query.now.depart +ℤ pos n) ≤ℤ ride.departs) (sym same) starts.2 in
      let foot : counted task.query.now seconds ≡ walk = ap (counted task.query.now) same ∙ sym starts.3 in
      subst (λ w. IsHeldIn task ride.alight (first_pair ride deadline w) 1) foot
      (all ride deadline (record { on_the_way = way; boards = at; leaves = leaves }))
  some_access seconds some (Some ride) of =
      let can = of.1 in (
        of.0,
        counted task.query.now seconds,
        can.on_the_way,
        (seconds, subst (λ p. HasAccess task.times.now task.query.now p seconds) (sym can.boards) ((access seconds).1 some), can.leaves, refl),
        of.2,
      )

pub all_first : (task : Task) (walks : List Span) → ((span : Span) → Contains walks span ↔ (Contains task.times.now.walks span × (span.from ≡ task.query.now.origin)))
    → AreFirstHeld task task.query.now.origin → All (λ span. AreFirstHeld task span.to) walks → (ride : Ride) → IsFirstHeld task ride
all_first task walks are here there ride deadline walk way starts = elim starts.1 [
  | inl at ↦ here ride at.0 deadline walk way starts
  | inr away ↦ (
      let span : Span = record { from = task.query.now.origin; to = ride.board; seconds = starts.0 } in
      All-contains (λ span. AreFirstHeld task span.to) walks span there ((are span).1 (away.2, refl)) ride refl deadline walk way starts)
]

-- ---- after a label

abbrev pub boarded_next : Task → RoundLabel → Place → ℕ → Boarded
boarded_next task label place seconds = record {
  deadline = label.label.deadline;
  walk = label.label.walk + counted task.query.now (change_walk label.label.place place seconds);
  round = label.round + 1;
}

module _ (task : Task) (label : RoundLabel) (place : Place) (found : Option ℕ)
    (change : (seconds : ℕ) → HasChange task.feed.now label.label.place place seconds ↔ (found ≡ Some seconds)) where
  pub no_change : found ≡ None → AreNextHeld task label place
  no_change none ride at deadline walk few way leads =
      let its = (change leads.0).0 (subst (λ p. HasChange task.feed.now label.label.place p leads.0) at leads.1) in
      absurd (none-some leads.0 (sym none ∙ its))

  pub some_change : label.round ≤ task.query.now.transfers → (seconds : ℕ) → found ≡ Some seconds → (ride : Option Ride)
      → IsUnheldFrom task (boarded_next task label place seconds) place (label.label.arrival +ℤ pos seconds) ride → IsUnheldChange task label place ride
  some_change few seconds some None all = λ ride at deadline walk few' way leads.
      let its = (change leads.0).0 (subst (λ p. HasChange task.feed.now label.label.place p leads.0) at leads.1) in
      let same : seconds ≡ leads.0 = same_Some seconds leads.0 (sym some ∙ its) in
      let leaves : (label.label.arrival +ℤ pos seconds) ≤ℤ ride.departs =
      subst (λ n. (label.label.arrival +ℤ pos n) ≤ℤ ride.departs) (sym same) leads.2 in
      let foot : counted task.query.now (change_walk label.label.place place seconds) ≡ walk =
      ap (λ n. counted task.query.now (change_walk label.label.place place n)) same
      ∙ ap (λ p. counted task.query.now (change_walk label.label.place p leads.0)) (sym at) ∙ sym leads.3 in
      subst (λ w. IsHeldIn task ride.alight (next_pair (told_label label.label) ride deadline w) (label.round + 1)) foot
      (all ride deadline (record { on_the_way = way; boards = at; leaves = leaves }))
  some_change few seconds some (Some ride) of =
      let can = of.1 in (
        of.0,
        counted task.query.now (change_walk label.label.place place seconds),
        few,
        can.on_the_way,
        (
          seconds,
          subst (λ p. HasChange task.feed.now label.label.place p seconds) (sym can.boards) ((change seconds).1 some),
          can.leaves,
          ap (λ p. counted task.query.now (change_walk label.label.place p seconds)) (sym can.boards),
        ),
        of.2,
      )

-- a change leads to another stop by a rule, or to the stop itself
change_cases : (task : Task) (label : RoundLabel) (stop : ℕ) → label.label.place ≡ Stop stop → (board : Place) (seconds : ℕ)
    → HasChange task.feed.now (Stop stop) board seconds
    → (board ≡ label.label.place) ⊎ ((to : ℕ) × (board ≡ Stop to) × Contains task.feed.now.changes (record { from = stop; to = to; kind = Least seconds }))
change_cases task label stop at (Stop to) seconds (inl row) = inr (to, refl, row)
change_cases task label stop at (Stop to) seconds (inr within) = inl (ap Stop (sym within.0) ∙ sym at)
change_cases task label stop at (Point to) seconds change = absurd change

pub all_next : (task : Task) (label : RoundLabel) (stop : ℕ) → label.label.place ≡ Stop stop → (rows : List ChangeRow)
    → ((row : ChangeRow) → Contains rows row ↔ (Contains task.feed.now.changes row × (row.from ≡ stop)))
    → AreNextHeld task label label.label.place → All (λ row. AreNextHeld task label (Stop row.to)) rows → (ride : Ride) → IsNextHeld task label ride
all_next task label stop at rows are here there ride deadline walk few way leads =
    elim (change_cases task label stop at ride.board leads.0 (subst (λ p. HasChange task.feed.now p ride.board leads.0) at leads.1)) [
      | inl same ↦ here ride same deadline walk few way leads
      | inr row ↦ (
          let its : ChangeRow = record { from = stop; to = row.0; kind = Least leads.0 } in
          All-contains (λ row. AreNextHeld task label (Stop row.to)) rows its there ((are its).1 (row.2, refl)) ride row.1 deadline walk few way leads)
    ]

-- at a point there is no change
no_change_at : (task : Task) (place board : Place) (seconds : ℕ) → ((stop : ℕ) → place ≡ Stop stop → ⊥) → HasChange task.feed.now place board seconds → ⊥
no_change_at task (Stop a) board seconds not change = not a refl
no_change_at task (Point a) board seconds not change = absurd change

pub none_next : (task : Task) (label : RoundLabel) → ((stop : ℕ) → label.label.place ≡ Stop stop → ⊥) → (ride : Ride) → IsNextHeld task label ride
none_next task label not ride deadline walk few way leads = absurd (no_change_at task label.label.place ride.board leads.0 not leads.1)

-- after the last round, or past the limit, one can't go on
pub last_round : (task : Task) (label : RoundLabel) → task.query.now.transfers < label.round → (ride : Ride) → IsNextHeld task label ride
last_round task label over ride deadline walk few way leads = absurd (omega arith)

pub too_late : (task : Task) → IsSoundTask task → (label : RoundLabel) → (label.label.arrival ≤ℤ limit task.query.now → ⊥) → (ride : Ride) → IsNextHeld task label ride
too_late task sound label late ride deadline walk few way leads =
    let forwards : ride.departs ≤ℤ ride.arrives = ride_forwards task.feed.now task.times.now task.days.now ride sound.feed way.usable.permitted in
    let leaves : (label.label.arrival +ℤ pos leads.0) ≤ℤ ride.departs = leads.2 in
    let arrives : ride.arrives ≤ℤ limit task.query.now = way.arrives in
    let in_time : label.label.arrival ≤ℤ limit task.query.now = omega (arith, ints) in
    absurd (late in_time)

-- ---- what the code finds

pub first_of_walks : (task : Task) (walks : List Span) → ((span : Span) → Contains walks span ↔ (Contains task.times.now.walks span × (span.from ≡ task.query.now.origin)))
    → AreFirstHeld task task.query.now.origin → (ride : Option Ride) → IsUnheldWalk task walks ride → IsUnheldFirst task ride
first_of_walks task walks are here None there = all_first task walks are here there
first_of_walks task walks are here (Some ride) of = of

pub next_of_rules : (task : Task) (label : RoundLabel) (stop : ℕ) → label.label.place ≡ Stop stop → (rows : List ChangeRow)
    → ((row : ChangeRow) → Contains rows row ↔ (Contains task.feed.now.changes row × (row.from ≡ stop)))
    → AreNextHeld task label label.label.place → (ride : Option Ride) → IsUnheldRule task label rows ride → IsUnheldNext task label ride
next_of_rules task label stop at rows are here None there = all_next task label stop at rows are here there
next_of_rules task label stop at rows are here (Some ride) of = of

-- what indexing past the end would give
abbrev pub no_span : Span
no_span = record { from = Stop 0; to = Stop 0; seconds = 0 }

abbrev pub no_row : ChangeRow
no_row = record { from = 0; to = 0; kind = Least 0 }
