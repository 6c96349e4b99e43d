-- One boarding more.
use Rattle.std.proofs.Common.{◌≡◌, inl, inr, ℕ, ◌+◌, ◌<◌, ℤ, slice_index_or, length, ◌∙◌, ap, arith, List, [], ◌∷◌, ◌++◌, All, Contains, sym, subst}
use Rattle.std.proofs.lemmas.Bool.{cases_order}
use Rattle.std.proofs.lemmas.List.{get_or_default}
use Rattle.std.proofs.lemmas.List.Elements.{All-contains, All-push, Contains-append_left, Contains-append_right}
use Rattle.flex_model.proofs.Found.{Contains-first}
use Rattle.round_engine.specs.declared.boarding.Boarding.{Boarding}
use Rattle.round_engine.specs.declared.task.Task.{Task}
use Rattle.round_engine.specs.Attained.{IsBoarding, IsLabel}
use Rattle.round_engine.specs.Bags.{Entry, bag_at}
use Rattle.round_engine.specs.Boardings.{AreChangesBoarded, AreLabelsOf, GainsBoardings, IsBagBoarded, IsRuleBoarded, IsWalkBoarded}
use Rattle.round_engine.specs.Chain.{round_of}
use Rattle.round_engine.specs.Flat.{IsBoarded}
use Rattle.round_engine.specs.declared.label.Label.{Label}
use Rattle.flex_model.specs.declared.change.ChangeRow.{ChangeRow}
use Rattle.flex_model.specs.declared.moment.Deadline.{Deadline}
use Rattle.flex_model.specs.declared.place.Place.{Place}
use Rattle.flex_model.specs.declared.times.Span.{Span}

pub one_gained : (task : Task) (k : ℕ) (old new : List Boarding) (boarding : Boarding) → new ≡ old ++ boarding ∷ [] → IsBoarding task k boarding
    → GainsBoardings task k old new
one_gained task k old new boarding e is = record {
  sound = λ all. subst (All (IsBoarding task k)) (sym e) (All-push (IsBoarding task k) old boarding all is);
  kept = λ other c. subst (λ these. Contains these other) (sym e) (Contains-append_left old (boarding ∷ []) other c);
}

pub one_among : (old new : List Boarding) (boarding : Boarding) → new ≡ old ++ boarding ∷ [] → Contains new boarding
one_among old new boarding e = subst (λ these. Contains these boarding) (sym e) (Contains-append_right old (boarding ∷ []) boarding (Contains-first boarding []))

pub none_gained : (task : Task) (k : ℕ) (old : List Boarding) → GainsBoardings task k old old
none_gained task k old = record { sound = λ all. all; kept = λ other c. c }

pub gained_more : (task : Task) (k : ℕ) (a b c : List Boarding) → GainsBoardings task k a b → GainsBoardings task k b c → GainsBoardings task k a c
gained_more task k a b c p q = record { sound = λ all. q.sound (p.sound all); kept = λ other x. q.kept other (p.kept other x) }

-- where one can board stays when boardings are gained
pub boarded_on : (task : Task) (k : ℕ) (old new : List Boarding) (place : Place) (moment : ℤ) (deadline : Deadline) (walk : ℕ) → GainsBoardings task k old new
    → IsBoarded old place moment deadline walk → IsBoarded new place moment deadline walk
boarded_on task k old new place moment deadline walk gains b = record {
  boarding = b.boarding;
  among = gains.kept b.boarding b.among;
  at_place = b.at_place;
  early = b.early;
  booked = b.booked;
  short = b.short;
}

-- What the first items of a list ask of the boardings is done.
pub record AreDone {A : Type 0} (Gains : List Boarding → List Boarding → Type 0) (Asks : List Boarding → A → Type 0) (items : List A)
    (old new : List Boarding) (n : ℕ) : Type 0 where
  pub gains : Gains old new
  pub asked : (j : ℕ) (d : A) → j < n → Asks new (slice_index_or items j d)

module _ {A : Type 0} (Gains : List Boarding → List Boarding → Type 0) (Asks : List Boarding → A → Type 0) (items : List A) where
  pub none_done : (old : List Boarding) → Gains old old → AreDone Gains Asks items old old 0
  none_done old same = record { gains = same; asked = λ j d lt. absurd (omega arith) }

  pub done_more : ((a b c : List Boarding) → Gains a b → Gains b c → Gains a c) → ((a b : List Boarding) (x : A) → Gains a b → Asks a x → Asks b x)
      → (old new newer : List Boarding) (n : ℕ) (dummy : A) → n < length items
      → AreDone Gains Asks items old new n → Gains new newer → Asks newer (slice_index_or items n dummy) → AreDone Gains Asks items old newer (n + 1)
  done_more both stays old new newer n dummy lt done gains asked = record {
    gains = both old new newer done.gains gains;
    asked = λ j d less. elim (cases_order j n) [
      | inl same ↦ subst (Asks newer) (get_or_default items n dummy d lt ∙ ap (λ m. slice_index_or items m d) (sym same)) asked
      | inr (inl before) ↦ stays new newer _ gains (done.asked j d before)
      | inr (inr after) ↦ absurd (omega arith)
    ];
  }

  pub all_done : (old new : List Boarding) (n : ℕ) → n ≡ length items → AreDone Gains Asks items old new n → All (Asks new) items
  all_done old new n e done = λ j d lt. done.asked j d (omega arith)

module _ (task : Task) (label : Label) where
  pub rule_stays : (old new : List Boarding) (row : ChangeRow) → GainsBoardings task (round_of label) old new
      → IsRuleBoarded task label old row → IsRuleBoarded task label new row
  rule_stays old new row gains boarded = λ seconds e other. boarded_on task (round_of label) old new _ _ _ _ gains (boarded seconds e other)

  pub changes_stay : (k : ℕ) (old new : List Boarding) → GainsBoardings task k old new → AreChangesBoarded task label old → AreChangesBoarded task label new
  changes_stay k old new gains boarded = λ place seconds change. boarded_on task k old new _ _ _ _ gains (boarded place seconds change)

pub walk_stays : (task : Task) (old new : List Boarding) (span : Span) → GainsBoardings task 0 old new
    → IsWalkBoarded task old span → IsWalkBoarded task new span
walk_stays task old new span gains boarded = λ stop other. boarded_on task 0 old new _ _ _ _ gains (boarded stop other)

-- what the labels of one round gain, of whichever that is
abbrev pub GainsAfter : Task → (ℕ → Type 0) → List Boarding → List Boarding → Type 0
GainsAfter task IsRound old new = (k : ℕ) → IsRound k → GainsBoardings task k old new

pub after_more : (task : Task) (IsRound : ℕ → Type 0) (a b c : List Boarding) → GainsAfter task IsRound a b → GainsAfter task IsRound b c
    → GainsAfter task IsRound a c
after_more task IsRound a b c p q = λ k is. gained_more task k a b c (p k is) (q k is)

pub bag_stays : (task : Task) (IsRound : ℕ → Type 0) → ((k : ℕ) × IsRound k) → (old new : List Boarding) (bag : List Entry) → GainsAfter task IsRound old new
    → IsBagBoarded task old bag → IsBagBoarded task new bag
bag_stays task IsRound some old new bag gains boarded = λ entry c.
    changes_stay task entry.1.now some.0 old new (gains some.0 some.1) (boarded entry c)

-- the labels of a bag, one by one
module _ (task : Task) (entries : List Entry) where
  abbrev pub AreLabelsDone : List Boarding → List Boarding → ℕ → Type 0
  AreLabelsDone =
      AreDone (GainsAfter task (λ k. AreLabelsOf task k entries)) (λ boardings entry. AreChangesBoarded task entry.1.now boardings) entries

  pub own_label : ((k : ℕ) × AreLabelsOf task k entries) → (n : ℕ) (d : Entry) → n < length entries
      → IsLabel task (round_of (slice_index_or entries n d).1.now) (slice_index_or entries n d).1.now
  own_label some n d lt =
      let is = some.1 n d lt in
      subst (λ k. IsLabel task k (slice_index_or entries n d).1.now) (sym is.round) is

  pub no_label_done : (old : List Boarding) → AreLabelsDone old old 0
  no_label_done old =
      none_done (GainsAfter task (λ k. AreLabelsOf task k entries)) (λ boardings entry. AreChangesBoarded task entry.1.now boardings) entries old
      (λ k is. none_gained task k old)

  pub label_done : ((k : ℕ) × AreLabelsOf task k entries) → (old new newer : List Boarding) (n : ℕ) (dummy : Entry) → n < length entries
      → AreLabelsDone old new n
      → GainsBoardings task (round_of (slice_index_or entries n dummy).1.now) new newer
      → AreChangesBoarded task (slice_index_or entries n dummy).1.now newer → AreLabelsDone old newer (n + 1)
  label_done some old new newer n dummy lt done gains boarded =
      done_more (GainsAfter task (λ k. AreLabelsOf task k entries)) (λ boardings entry. AreChangesBoarded task entry.1.now boardings) entries
      (after_more task (λ k. AreLabelsOf task k entries))
      (λ a b entry gained changes. changes_stay task entry.1.now some.0 a b (gained some.0 some.1) changes)
      old new newer n dummy lt done
      (λ k are. subst (λ m. GainsBoardings task m new newer) (are n dummy lt).round gains) boarded

  pub labels_done : (old new : List Boarding) (n : ℕ) → n ≡ length entries → AreLabelsDone old new n → IsBagBoarded task new entries
  labels_done old new n e done entry c =
      All-contains (λ entry. AreChangesBoarded task entry.1.now new) entries entry
      (all_done (GainsAfter task (λ k. AreLabelsOf task k entries)) (λ boardings entry. AreChangesBoarded task entry.1.now boardings) entries old new n e done) c

-- the bags of a round that are marked, one by one
module _ (task : Task) (bags : List (List Entry)) (marked : List ℕ) where
  abbrev pub AreBagsDone : List Boarding → List Boarding → ℕ → Type 0
  AreBagsDone =
      AreDone (GainsAfter task (λ k. (i : ℕ) → AreLabelsOf task k (bag_at bags i))) (λ boardings at. IsBagBoarded task boardings (bag_at bags at)) marked

  pub no_bag_done : (old : List Boarding) → AreBagsDone old old 0
  no_bag_done old =
      none_done (GainsAfter task (λ k. (i : ℕ) → AreLabelsOf task k (bag_at bags i))) (λ boardings at. IsBagBoarded task boardings (bag_at bags at)) marked old
      (λ k is. none_gained task k old)

  pub bag_done : ((k : ℕ) × ((i : ℕ) → AreLabelsOf task k (bag_at bags i))) → (old new newer : List Boarding) (n : ℕ) (dummy : ℕ) → n < length marked
      → AreBagsDone old new n
      → ((k : ℕ) → AreLabelsOf task k (bag_at bags (slice_index_or marked n dummy)) → GainsBoardings task k new newer)
      → IsBagBoarded task newer (bag_at bags (slice_index_or marked n dummy)) → AreBagsDone old newer (n + 1)
  bag_done some old new newer n dummy lt done gains boarded =
      done_more (GainsAfter task (λ k. (i : ℕ) → AreLabelsOf task k (bag_at bags i))) (λ boardings at. IsBagBoarded task boardings (bag_at bags at)) marked
      (after_more task (λ k. (i : ℕ) → AreLabelsOf task k (bag_at bags i)))
      (λ a b at gained bag. bag_stays task (λ k. (i : ℕ) → AreLabelsOf task k (bag_at bags i)) some a b (bag_at bags at) gained bag)
      old new newer n dummy lt done (λ k are. gains k (are (slice_index_or marked n dummy))) boarded

  pub bags_done : ((i : ℕ) (entry : Entry) → Contains (bag_at bags i) entry → Contains marked i)
      → (old new : List Boarding) (n : ℕ) → n ≡ length marked → AreBagsDone old new n → (i : ℕ) → IsBagBoarded task new (bag_at bags i)
  bags_done whole old new n e done i entry c =
      All-contains (λ at. IsBagBoarded task new (bag_at bags at)) marked i
      (all_done (GainsAfter task (λ k. (i : ℕ) → AreLabelsOf task k (bag_at bags i))) (λ boardings at. IsBagBoarded task boardings (bag_at bags at)) marked old new n e done)
      (whole i entry c) entry c
