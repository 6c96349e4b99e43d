-- Rides that pass all tests are a permitted journey, which has one triple.
use Rattle.std.proofs.Common.{◌≡◌, ◌↔◌, ℕ, suc, ◌+◌, ◌-◌, ◌<◌, pos, ◌+ℤ◌, ◌≤ℤ◌, List, Some, Result, Ok, Err, All, get_or, length, slice_get, refl, sym, ◌∙◌, ap, subst, add-one, arith}
use Rattle.std.specs.List.{AllAdjacentBelow}
use Rattle.std.proofs.lemmas.Option.{slice_get-get_or}
use Rattle.flex_model.specs.declared.answer.Triple.{Triple}
use Rattle.flex_model.specs.declared.feed.Feed.{Feed}
use Rattle.flex_model.specs.declared.flaw.JourneyFlaw.{JourneyFlaw}
use Rattle.flex_model.specs.declared.moment.DayTable.{DayTable}
use Rattle.flex_model.specs.declared.query.Query.{Query}
use Rattle.flex_model.specs.declared.ride.Ride.{Ride}
use Rattle.flex_model.specs.declared.times.Times.{Times}
use Rattle.flex_model.specs.Change.{HasEgress}
use Rattle.flex_model.specs.Flaw.{IsFirstJourneyFlaw, PassesBefore}
use Rattle.flex_model.specs.Journey.{Attains, ChangesInTime, IsItinerary, IsLast, IsLeastDeadline, IsUsable, WalksTo, counted, limit}
use Rattle.flex_model.proofs.Flaws.{journeys_flawed}
use Rattle.flex_model.proofs.Found.{slice_get_unique}
use Rattle.journey_judge.proofs.JourneyFlaws.{one_flaw}
use Rattle.journey_judge.proofs.JourneyTests.{no_ride}
use Rattle.flex_model.proofs.Orders.{IsNoLater_antisym}
use Rattle.journey_judge.specs.declared.tally.Tally.{Tally}
use Rattle.journey_judge.specs.Tallies.{IsTally}

module _ (feed : Feed) (times : Times) (days : DayTable) (query : Query) (rides : List Ride) where
  -- what a flaw answers
  pub flaw_is_no_triple : (r : Result Triple JourneyFlaw) (flaw : JourneyFlaw) → r ≡ Err flaw → IsFirstJourneyFlaw feed times days query rides flaw
      → (triple : Triple) → (r ≡ Ok triple) ↔ Attains feed times days query rides triple
  flaw_is_no_triple r flaw is first triple = (
    λ e. let both : Err flaw ≡ Ok triple = sym is ∙ e in cc,
    λ a. absurd (journeys_flawed feed times days query rides flaw first a.journey),
  )

  pub flaw_is_first : (r : Result Triple JourneyFlaw) (flaw : JourneyFlaw) → r ≡ Err flaw → IsFirstJourneyFlaw feed times days query rides flaw
      → (other : JourneyFlaw) → (r ≡ Err other) ↔ IsFirstJourneyFlaw feed times days query rides other
  flaw_is_first r flaw is first other = (
    λ e. let both : Err flaw ≡ Err other = sym is ∙ e in let same : flaw ≡ other = cc in subst (IsFirstJourneyFlaw feed times days query rides) same first,
    λ its. is ∙ ap Err (one_flaw feed times days query rides flaw other first its),
  )

  usable_at : (k : ℕ) (ride : Ride) → PassesBefore feed times days query rides (length rides) → k < length rides → slice_get rides k ≡ Some ride → IsUsable feed times days query ride
  usable_at k ride passed within is = let here = passed.each k ride within is in record { permitted = here.permitted; bookable = here.bookable }

  all_usable : PassesBefore feed times days query rides (length rides) → All (IsUsable feed times days query) rides
  all_usable passed k d within = usable_at k (get_or rides k d) passed within (slice_get-get_or rides k d within)

  adjacent : PassesBefore feed times days query rides (length rides) → AllAdjacentBelow (ChangesInTime feed) rides (length rides)
  adjacent passed k d lt =
      let at : slice_get rides k ≡ Some (get_or rides k d) = slice_get-get_or rides k d (omega arith) in
      let next : slice_get rides (suc k) ≡ Some (get_or rides (suc k) d) = slice_get-get_or rides (suc k) d (omega arith) in
      let here = (passed.each (suc k) (get_or rides (suc k) d) (omega arith) next).in_time in
      let one : here.0 ≡ get_or rides k d = slice_get_unique rides k here.0 (get_or rides k d) here.1 at in
      rw add-one (subst (λ r. ChangesInTime feed r (get_or rides (suc k) d)) one here.2)

  itinerary : 0 < length rides → PassesBefore feed times days query rides (length rides) → IsItinerary feed times days query rides
  itinerary some passed =
      let first : slice_get rides 0 ≡ Some (get_or rides 0 no_ride) = slice_get-get_or rides 0 no_ride some in
      record {
        few = passed.few;
        usable = all_usable passed;
        first = get_or rides 0 no_ride;
        is_first = first;
        starts = (passed.each 0 (get_or rides 0 no_ride) some first).in_time;
        changes = adjacent passed;
      }

  -- the rides end in time
  module _ (last : Ride) (seconds : ℕ) (some : 0 < length rides) (passed : PassesBefore feed times days query rides (length rides)) (is_last : IsLast rides last)
      (egress : HasEgress times query last.alight seconds) where
    attained : (triple : Triple) (walked : ℕ) → triple.arrival ≡ last.arrives +ℤ pos seconds → triple.arrival ≤ℤ limit query → IsLeastDeadline feed days rides triple.deadline
        → triple.transfers + 1 ≡ length rides → WalksTo feed times query rides (length rides - 1) walked → triple.walk ≡ walked + counted query seconds
        → Attains feed times days query rides triple
    attained triple walked arrival ends deadline transfers walks walk = record {
      journey = record { itinerary = itinerary some passed; last = last; is_last = is_last; seconds = seconds; egress = egress; ends = subst (λ m. m ≤ℤ limit query) arrival ends };
      deadline = deadline;
      arrival = arrival;
      transfers = transfers;
      walked = walked;
      walks = walks;
      walk = walk;
    }

    -- the triple is determined where the egress and the walk up to the last ride are
    one_triple : ((other : ℕ) → HasEgress times query last.alight other → other ≡ seconds) → (walked : ℕ)
        → ((other : ℕ) → WalksTo feed times query rides (length rides - 1) other → other ≡ walked)
        → (a b : Triple) → Attains feed times days query rides a → Attains feed times days query rides b → a ≡ b
    one_triple one walked walks a b p q =
        let deadline : a.deadline ≡ b.deadline =
        IsNoLater_antisym a.deadline b.deadline (p.deadline.least q.deadline.ride b.deadline q.deadline.among q.deadline.reached) (q.deadline.least p.deadline.ride a.deadline p.deadline.among p.deadline.reached) in
        let arrival : a.arrival ≡ b.arrival = arrives a p ∙ sym (arrives b q) in
        let transfers : a.transfers ≡ b.transfers = (let m = p.transfers in let n = q.transfers in omega arith) in
        let walk : a.walk ≡ b.walk = on_foot a p ∙ sym (on_foot b q) in
        λ i. record { deadline = deadline i; arrival = arrival i; transfers = transfers i; walk = walk i }
      where
        same_last : (t : Triple) (r : Attains feed times days query rides t) → r.journey.last ≡ last
        same_last t r = slice_get_unique rides (length rides - 1) r.journey.last last r.journey.is_last is_last

        same_egress : (t : Triple) (r : Attains feed times days query rides t) → r.journey.seconds ≡ seconds
        same_egress t r = one r.journey.seconds (subst (λ ride. HasEgress times query ride.alight r.journey.seconds) (same_last t r) r.journey.egress)

        arrives : (t : Triple) → Attains feed times days query rides t → t.arrival ≡ last.arrives +ℤ pos seconds
        arrives t r =
            r.arrival ∙ ap (λ ride. ride.arrives +ℤ pos r.journey.seconds) (same_last t r) ∙ ap (λ s. last.arrives +ℤ pos s) (same_egress t r)

        on_foot : (t : Triple) → Attains feed times days query rides t → t.walk ≡ walked + counted query seconds
        on_foot t r = r.walk ∙ ap (λ w. w + counted query r.journey.seconds) (walks r.walked r.walks) ∙ ap (λ s. walked + counted query s) (same_egress t r)

    -- the triple of rides with this tally
    module _ (one : (other : ℕ) → HasEgress times query last.alight other → other ≡ seconds) (tally : Tally) (tallied : IsTally feed times days query rides tally)
        (triple : Triple) (arrival : triple.arrival ≡ last.arrives +ℤ pos seconds) (ends : triple.arrival ≤ℤ limit query) (deadline : tally.deadline ≡ triple.deadline)
        (transfers : triple.transfers + 1 ≡ length rides) (walk : triple.walk ≡ tally.walk + counted query seconds) where
      is_attained : Attains feed times days query rides triple
      is_attained = attained triple tally.walk arrival ends (subst (IsLeastDeadline feed days rides) deadline tallied.booked) transfers ((tallied.walks tally.walk).1 refl) walk

      pub triple_is_attained : (other : Triple) → ◌≡◌ {A = Result Triple JourneyFlaw} (Ok triple) (Ok other) ↔ Attains feed times days query rides other
      triple_is_attained other = (
        λ e. let same : triple ≡ other = cc in subst (Attains feed times days query rides) same is_attained,
        λ its. ap Ok (one_triple one tally.walk (λ w walks. (tallied.walks w).0 walks) triple other is_attained its),
      )

      pub triple_is_no_flaw : (flaw : JourneyFlaw) → ◌≡◌ {A = Result Triple JourneyFlaw} (Ok triple) (Err flaw) ↔ IsFirstJourneyFlaw feed times days query rides flaw
      triple_is_no_flaw flaw = (
        λ e. cc,
        λ first. absurd (journeys_flawed feed times days query rides flaw first is_attained.journey),
      )
