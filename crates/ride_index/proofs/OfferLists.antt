-- Lists of offered runs, as they grow.
use Rattle.std.proofs.Common.{◌≡◌, ◌↔◌, ◌⊎◌, inl, inr, List, [], ◌++◌, Contains, append_assoc, append-nil, sym, ◌∙◌, ap}
use Rattle.std.proofs.lemmas.List.Elements.{Contains-append_cases, Contains-append_left, Contains-append_right}
use Rattle.flex_model.specs.declared.moment.Deadline.{Deadline}
use Rattle.flex_model.specs.declared.ride.Ride.{Ride}
use Rattle.flex_model.proofs.Found.{none_contained}
use Rattle.ride_index.specs.declared.offered_run.OfferedRun.{OfferedRun}
use Rattle.ride_index.specs.OfferedRuns.{AreOffersOf, GainsOffersOf, IsCovered}

-- what covers a ride may stand among more runs
pub covered_among : (xs ys : List OfferedRun) (ride : Ride) (deadline : Deadline) → ((run : OfferedRun) → Contains xs run → Contains ys run) → IsCovered xs ride deadline → IsCovered ys ride deadline
covered_among xs ys ride deadline more c = record {
  run = c.run;
  among = more c.run c.among;
  at = c.at;
  low = c.low;
  alights = c.alights;
  booked = c.booked;
  arrives = c.arrives;
}

pub no_offers : (P : Ride → Deadline → Type 0) → ((ride : Ride) (deadline : Deadline) → P ride deadline → ⊥) → AreOffersOf P []
no_offers P none = record { each = λ run k c lt. absurd (none_contained run c); whole = λ ride deadline p. absurd (none ride deadline p) }

pub same_offers : (P Q : Ride → Deadline → Type 0) (runs : List OfferedRun) → ((ride : Ride) (deadline : Deadline) → P ride deadline ↔ Q ride deadline) → AreOffersOf P runs → AreOffersOf Q runs
same_offers P Q runs same o = record {
  each = λ run k c lt. (same _ _).0 (o.each run k c lt);
  whole = λ ride deadline q. o.whole ride deadline ((same ride deadline).1 q);
}

pub both_offers : (P Q R : Ride → Deadline → Type 0) (xs ys : List OfferedRun) → AreOffersOf P xs → AreOffersOf Q ys → ((ride : Ride) (deadline : Deadline) → (P ride deadline ⊎ Q ride deadline) ↔ R ride deadline)
    → AreOffersOf R (xs ++ ys)
both_offers P Q R xs ys first second both = record {
  each = λ run k c lt. elim (Contains-append_cases xs ys run c) [
    | inl old ↦ (both _ _).0 (inl (first.each run k old lt))
    | inr new ↦ (both _ _).0 (inr (second.each run k new lt))
  ];
  whole = λ ride deadline r. elim ((both ride deadline).1 r) [
    | inl p ↦ covered_among xs (xs ++ ys) ride deadline (λ run c. Contains-append_left xs ys run c) (first.whole ride deadline p)
    | inr q ↦ covered_among ys (xs ++ ys) ride deadline (λ run c. Contains-append_right xs ys run c) (second.whole ride deadline q)
  ];
}

-- the list gained offers, and then more of them

pub gains_none : (P : Ride → Deadline → Type 0) (xs : List OfferedRun) → ((ride : Ride) (deadline : Deadline) → P ride deadline → ⊥) → GainsOffersOf P xs xs
gains_none P xs none = ([], sym (append-nil xs), no_offers P none)

pub gains_same : (P Q : Ride → Deadline → Type 0) (before after : List OfferedRun) → ((ride : Ride) (deadline : Deadline) → P ride deadline ↔ Q ride deadline) → GainsOffersOf P before after → GainsOffersOf Q before after
gains_same P Q before after same g = (g.0, g.1, same_offers P Q g.0 same g.2)

pub gains_both : (P Q R : Ride → Deadline → Type 0) (before found after : List OfferedRun) → GainsOffersOf P before found → GainsOffersOf Q found after
    → ((ride : Ride) (deadline : Deadline) → (P ride deadline ⊎ Q ride deadline) ↔ R ride deadline) → GainsOffersOf R before after
gains_both P Q R before found after first second both =
    (first.0 ++ second.0, second.1 ∙ ap (λ xs. xs ++ second.0) first.1 ∙ append_assoc before first.0 second.0, both_offers P Q R first.0 second.0 first.2 second.2 both)

-- what the code adds
pub gains_added : (P : Ride → Deadline → Type 0) (before after added : List OfferedRun) → after ≡ before ++ added → AreOffersOf P added → GainsOffersOf P before after
gains_added P before after added is o = (added, is, o)
