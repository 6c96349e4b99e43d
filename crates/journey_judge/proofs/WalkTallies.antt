-- Tallies of rides, one ride after the other.
use Rattle.std.proofs.Common.{◌≡◌, ◌↔◌, ℕ, zero, suc, ◌+◌, ◌-◌, ◌*◌, ◌<◌, ◌≤◌, List, Some, length, slice_get, refl, subst, add-one, arith}
use Rattle.flex_model.specs.declared.feed.Feed.{Feed}
use Rattle.flex_model.specs.declared.moment.DayTable.{DayTable}
use Rattle.flex_model.specs.declared.moment.Deadline.TheVariants.{Never}
use Rattle.flex_model.specs.declared.query.Query.{Query}
use Rattle.flex_model.specs.declared.ride.Ride.{Ride}
use Rattle.flex_model.specs.declared.times.Times.{Times}
use Rattle.flex_model.specs.Deadline.{lesser}
use Rattle.flex_model.specs.Flaw.{PassesBefore}
use Rattle.flex_model.specs.Journey.{ChangesOnFoot, StartsOnFoot, WalksTo}
use Rattle.flex_model.proofs.Found.{slice_get_unique}
use Rattle.journey_judge.specs.declared.tally.Tally.{Tally}
use Rattle.journey_judge.specs.Tallies.{IsOneTally, IsTally, ReachesOnFoot}
use Rattle.journey_judge.proofs.JourneyTests as Tests
use Rattle.journey_judge.proofs.LeastDeadlines as Deadlines

module _ (feed : Feed) (times : Times) (days : DayTable) (query : Query) (rides : List Ride) where
  -- the walk up to the rides before index k
  abbrev pub WalksBefore : ℕ → ℕ → Type 0
  WalksBefore zero walk = walk ≡ 0
  WalksBefore (suc k) walk = WalksTo feed times query rides k walk

  -- the rides before index k pass their tests, and the tally has their least deadline and just
  -- their walk
  pub record AreTallied (k : ℕ) (tally : Tally) : Type 0 where
    pub passes : PassesBefore feed times days query rides k
    pub booked : Deadlines.IsLeastBefore feed days rides k tally.deadline
    pub walks : (walk : ℕ) → WalksBefore k walk ↔ (walk ≡ tally.walk)
    pub short : tally.walk ≤ 86400 * k

  pub none_tallied : length rides ≤ query.transfers + 1 → AreTallied 0 (record { deadline = Never; walk = 0 })
  none_tallied few = record {
    passes = Tests.none_before feed times days query rides few;
    booked = Deadlines.none_yet feed days rides;
    walks = λ walk. (λ e. e, λ e. e);
    short = omega arith;
  }

  -- the walk of one more ride
  walks_more : (k : ℕ) (ride : Ride) (before one : ℕ) → slice_get rides k ≡ Some ride
      → ((walk : ℕ) → WalksBefore k walk ↔ (walk ≡ before))
      → ((walk : ℕ) → ReachesOnFoot feed times query rides k ride walk ↔ (walk ≡ one))
      → (walk : ℕ) → WalksTo feed times query rides k walk ↔ (walk ≡ before + one)
  walks_more zero ride before one is was here walk = (there, back)
    where
      there : WalksTo feed times query rides zero walk → walk ≡ before + one
      there w =
          let same = slice_get_unique rides 0 w.0 ride w.1 is in
          let e : walk ≡ one = (here walk).0 (subst (λ r. StartsOnFoot times query r walk) same w.2) in
          let nothing : 0 ≡ before = (was 0).0 refl in
          omega arith

      back : walk ≡ before + one → WalksTo feed times query rides zero walk
      back e =
          let nothing : 0 ≡ before = (was 0).0 refl in
          (ride, is, (here walk).1 (omega arith))
  walks_more (suc k) ride before one is was here walk = (there, back)
    where
      there : WalksTo feed times query rides (suc k) walk → walk ≡ before + one
      there w =
          let same = slice_get_unique rides (suc k) w.1 ride w.5 is in
          let change : w.3 ≡ one = (here w.3).0 (w.0, w.4, subst (λ r. ChangesOnFoot feed query w.0.alight w.0.arrives r w.3) same w.7) in
          let earlier : w.2 ≡ before = (was w.2).0 w.6 in
          let e : walk ≡ w.2 + w.3 = w.8 in
          omega arith

      back : walk ≡ before + one → WalksTo feed times query rides (suc k) walk
      back e =
          let change = (here one).1 refl in
          (change.0, ride, before, one, change.1, is, (was before).1 refl, change.2, e)

  -- one more ride
  pub one_tallied : (k : ℕ) (whole one : Tally) → AreTallied k whole → IsOneTally feed times days query rides k one
      → AreTallied (k + 1) (record { deadline = lesser whole.deadline one.deadline; walk = whole.walk + one.walk })
  one_tallied k whole one before here = record {
    passes = Tests.one_more feed times days query rides k here.ride here.is_ride before.passes here.passes;
    booked = Deadlines.one_more feed days rides k here.ride whole.deadline one.deadline here.is_ride here.booked before.booked;
    walks = λ walk. rw add-one (walks_more k here.ride whole.walk one.walk here.is_ride before.walks here.walks walk);
    short = let less = before.short in let little = here.short in omega arith;
  }

  walks_to_last : (n : ℕ) (whole : ℕ) → 0 < n → ((walk : ℕ) → WalksBefore n walk ↔ (walk ≡ whole)) → (walk : ℕ) → WalksTo feed times query rides (n - 1) walk ↔ (walk ≡ whole)
  walks_to_last zero whole some before walk = absurd (omega arith)
  walks_to_last (suc k) whole some before walk =
      let last : k ≡ suc k - 1 = omega arith in
      subst (λ i. WalksTo feed times query rides i walk ↔ (walk ≡ whole)) last (before walk)

  -- all rides, of which there are some
  pub all_tallied : (tally : Tally) → 0 < length rides → AreTallied (length rides) tally → IsTally feed times days query rides tally
  all_tallied tally some all = record {
    passes = all.passes;
    booked = Deadlines.least_of_all feed days rides tally.deadline some all.booked;
    walks = walks_to_last (length rides) tally.walk some all.walks;
    short = all.short;
  }
