-- All that one can board: from the origin, or after labels.
use Rattle.std.proofs.Common.{◌≡◌, ◌≢◌, ◌⊎◌, inl, inr, ◌↔◌, ℕ, ◌+◌, ◌-◌, ◌<◌, pos, ◌+ℤ◌, List, [], Some, All, Contains, get_or, length, slice_get, refl, sym, ◌∙◌, ap, subst, arith}
use Rattle.std.proofs.lemmas.Bool.{cases_order}
use Rattle.std.proofs.lemmas.List.Elements.{All-contains, Contains-get_or}
use Rattle.std.proofs.lemmas.Option.{get_or_from_slice_get, slice_get_within}
use Rattle.flex_model.specs.declared.change.ChangeRow.{ChangeRow}
use Rattle.flex_model.specs.declared.change.ChangeKind.TheVariants.{Least}
use Rattle.flex_model.specs.declared.moment.Deadline.TheVariants.{Never}
use Rattle.flex_model.specs.declared.place.Place.{Place}
use Rattle.flex_model.specs.declared.place.Place.TheVariants.{Stop, Point}
use Rattle.flex_model.specs.declared.times.Span.{Span}
use Rattle.flex_model.specs.declared.feed.Feed.{Feed}
use Rattle.flex_model.specs.Change.{HasChange}
use Rattle.flex_model.specs.Journey.{change_walk, counted}
use Rattle.round_engine.specs.declared.boarding.Boarding.{Boarding}
use Rattle.round_engine.specs.declared.label.Label.{Label}
use Rattle.round_engine.specs.declared.task.Task.{Task}
use Rattle.round_engine.specs.Attained.{IsLabel}
use Rattle.round_engine.specs.Bags.{Entry, bag_at, round_at}
use Rattle.round_engine.specs.Boardings.{AreChangesBoarded, AreLabelsOf, IsBagBoarded, IsBoardedAfter, IsRuleAfter, IsRuleBoarded, IsWalkAway, IsWalkBoarded}
use Rattle.round_engine.specs.Chain.{place_of}
use Rattle.round_engine.specs.Flat.{AreFirstBoardings, AreNextBoardings, IsBoarded}
use Rattle.round_engine.specs.Searched.{AreEntries}

-- the walks from the origin that are looked up
module _ (task : Task) (all walks : List Span) (e : all ≡ task.times.now.walks)
    (listed : (span : Span) → Contains walks span ↔ (Contains all span × (span.from ≡ task.query.now.origin))) where
  pub walks_away : All (IsWalkAway task) walks
  walks_away k d lt =
      let is = (listed (get_or walks k d)).0 (Contains-get_or walks k d lt) in
      record { among = subst (λ these. Contains these (get_or walks k d)) e is.0; from = is.1 }

  pub all_first : (boardings : List Boarding) → IsBoarded boardings task.query.now.origin (task.query.now.depart +ℤ pos 0) Never (counted task.query.now 0)
      → All (IsWalkBoarded task boardings) walks → AreFirstBoardings task boardings
  all_first boardings here away place seconds access = elim access [
    | inl h ↦ subst (λ p. IsBoarded boardings p (task.query.now.depart +ℤ pos seconds) Never (counted task.query.now seconds)) (sym h.0)
        (subst (λ n. IsBoarded boardings task.query.now.origin (task.query.now.depart +ℤ pos n) Never (counted task.query.now n)) (sym h.1) here)
    | inr h ↦ (
        let span : Span = record { from = task.query.now.origin; to = place; seconds = seconds } in
        let among : Contains walks span = (listed span).1 (subst (λ these. Contains these span) (sym e) h.2, refl) in
        All-contains (IsWalkBoarded task boardings) walks span away among h.1 h.0)
  ]

-- the rules for changing from the label's stop that are looked up
module _ (task : Task) (label : Label) (stop : ℕ) (rows : List ChangeRow) (e : place_of label ≡ Stop stop)
    (listed : (row : ChangeRow) → Contains rows row ↔ (Contains task.feed.now.changes row × (row.from ≡ stop))) where
  pub rules_after : All (IsRuleAfter task label) rows
  rules_after k d lt =
      let is = (listed (get_or rows k d)).0 (Contains-get_or rows k d lt) in
      record { among = is.0; from = e ∙ ap Stop (sym is.1) }

  pub all_elsewhere : (boardings : List Boarding) → All (IsRuleBoarded task label boardings) rows → (place : Place) (seconds : ℕ) → place ≢ place_of label
      → HasChange task.feed.now (place_of label) place seconds → IsBoardedAfter task label boardings place seconds
  all_elsewhere boardings all place seconds other change = by_place place other (subst (λ p. HasChange task.feed.now p place seconds) e change)
    where
      by_place : (place : Place) → place ≢ place_of label → HasChange task.feed.now (Stop stop) place seconds
          → IsBoardedAfter task label boardings place seconds
      by_place (Stop to) other (inl row) =
          let rule : ChangeRow = record { from = stop; to = to; kind = Least seconds } in
          All-contains (IsRuleBoarded task label boardings) rows rule all ((listed rule).1 (row, refl)) seconds refl (λ same. other (ap Stop same ∙ sym e))
      by_place (Stop to) other (inr within) = absurd (other (ap Stop (sym within.0) ∙ sym e))
      by_place (Point p) other h = absurd h

-- no change leads from a point
pub none_from_points : (feed : Feed) (here place : Place) (seconds : ℕ) → ((stop : ℕ) → here ≡ Stop stop → ⊥) → HasChange feed here place seconds → ⊥
none_from_points feed (Stop a) place seconds none h = none a refl
none_from_points feed (Point a) place seconds none h = h

stops_apart : (a b : ℕ) → (a ≡ b → ⊥) → Stop a ≢ Stop b
stops_apart a b apart e = (let same : a ≡ b = cc in apart same)

within_or_elsewhere : (feed : Feed) (here place : Place) (seconds : ℕ) → HasChange feed here place seconds → (place ≡ here) ⊎ (place ≢ here)
within_or_elsewhere feed (Stop a) (Stop b) seconds h = elim (cases_order b a) [
  | inl same ↦ inl (ap Stop same)
  | inr (inl less) ↦ inr (stops_apart b a (λ e. omega arith))
  | inr (inr more) ↦ inr (stops_apart b a (λ e. omega arith))
]
within_or_elsewhere feed (Stop a) (Point b) seconds h = absurd h
within_or_elsewhere feed (Point a) place seconds h = absurd h

-- a change leads elsewhere or not
pub everywhere : (task : Task) (label : Label) (boardings : List Boarding)
    → ((seconds : ℕ) → HasChange task.feed.now (place_of label) (place_of label) seconds → IsBoardedAfter task label boardings (place_of label) seconds)
    → ((place : Place) (seconds : ℕ) → place ≢ place_of label → HasChange task.feed.now (place_of label) place seconds → IsBoardedAfter task label boardings place seconds)
    → AreChangesBoarded task label boardings
everywhere task label boardings here there place seconds change = elim (within_or_elsewhere task.feed.now (place_of label) place seconds change) [
  | inl same ↦ subst (λ p. IsBoardedAfter task label boardings p seconds) (sym same)
      (here seconds (subst (λ p. HasChange task.feed.now (place_of label) p seconds) same change))
  | inr other ↦ there place seconds other change
]

pub last_is : (earlier : List (List (List Entry))) (last : List (List Entry)) → Some last ≡ slice_get earlier (length earlier - 1)
    → (0 < length earlier) × (round_at earlier (length earlier - 1) ≡ last)
last_is earlier last e =
    let lt = slice_get_within earlier (length earlier - 1) last (sym e) in
    (omega arith, get_or_from_slice_get earlier (length earlier - 1) last [] (sym e))

-- after the last of the rounds
module _ (task : Task) (earlier : List (List (List Entry))) (entries : AreEntries task earlier) (last : List (List Entry)) (some : 0 < length earlier)
    (is : round_at earlier (length earlier - 1) ≡ last) where
  in_last : (i : ℕ) (entry : Entry) → Contains (bag_at last i) entry → Contains (bag_at (round_at earlier (length earlier - 1)) i) entry
  in_last i entry c = subst (λ these. Contains (bag_at these i) entry) (sym is) c

  count_is : (length earlier - 1) + 1 ≡ length earlier
  count_is = omega arith

  pub labels_of_last : (i : ℕ) → AreLabelsOf task (length earlier) (bag_at last i)
  labels_of_last i k d lt =
      let entry : Entry = get_or (bag_at last i) k d in
      subst (λ n. IsLabel task n entry.1.now) count_is (entries (length earlier - 1) i entry (in_last i entry (Contains-get_or (bag_at last i) k d lt))).label

  pub all_next : (boardings : List Boarding) → ((i : ℕ) → IsBagBoarded task boardings (bag_at last i))
      → AreNextBoardings task (round_at earlier (length earlier - 1)) boardings
  all_next boardings all i entry c place seconds change =
      subst (λ p. IsBoarded boardings place (p.arrival +ℤ pos seconds) p.deadline (p.walk + counted task.query.now (change_walk (place_of entry.1.now) place seconds)))
      (entries (length earlier - 1) i entry c).pair
      (all i entry (subst (λ these. Contains (bag_at these i) entry) is c) place seconds change)
