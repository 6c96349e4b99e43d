-- Of the flaws of a ride one is the first.
use Rattle.std.proofs.Common.{◌≡◌, ℕ, zero, suc, ◌+◌, ◌<◌, List, [], ◌∷◌, get_or, refl, sym, ◌∙◌, ap, subst, inl, inr, lit<, ◌≤◌, arith}
use Rattle.std.proofs.lemmas.Bool.{cases_lt, cases_order}
use Rattle.flex_model.specs.declared.feed.Feed.{Feed}
use Rattle.flex_model.specs.declared.flaw.RideFlaw.{RideFlaw}
use Rattle.flex_model.specs.declared.flaw.RideFlaw.TheVariants.{NoTrip, NoRow, NoDay, NotActive, Frequent, NotBoarded, NotAlighted, WrongDeparture, NoDirect, WrongArrival}
use Rattle.flex_model.specs.declared.moment.DayTable.{DayTable}
use Rattle.flex_model.specs.declared.ride.Ride.{Ride}
use Rattle.flex_model.specs.declared.times.Times.{Times}
use Rattle.flex_model.specs.Flaw.{IsFirstFlaw, Passes, test_number}
use Rattle.flex_model.specs.Ride.{IsPermittedRide}
use Rattle.flex_model.proofs.Flaws.{passes, permit}

-- the tests in order
abbrev pub tests : List RideFlaw
tests = NoTrip ∷ NoRow ∷ NoDay ∷ NotActive ∷ Frequent ∷ NotBoarded ∷ NotAlighted ∷ WrongDeparture ∷ NoDirect ∷ WrongArrival ∷ []

-- each test stands at its number
test_at : (flaw : RideFlaw) → get_or tests (test_number flaw) NoTrip ≡ flaw
test_at NoTrip = refl
test_at NoRow = refl
test_at NoDay = refl
test_at NotActive = refl
test_at Frequent = refl
test_at NotBoarded = refl
test_at NotAlighted = refl
test_at WrongDeparture = refl
test_at NoDirect = refl
test_at WrongArrival = refl

number_below : (flaw : RideFlaw) → test_number flaw < 10
number_below NoTrip = lit< tt
number_below NoRow = lit< tt
number_below NoDay = lit< tt
number_below NotActive = lit< tt
number_below Frequent = lit< tt
number_below NotBoarded = lit< tt
number_below NotAlighted = lit< tt
number_below WrongDeparture = lit< tt
number_below NoDirect = lit< tt
number_below WrongArrival = lit< tt

number_at : (k : ℕ) → k < 10 → test_number (get_or tests k NoTrip) ≡ k
number_at zero lt = refl
number_at (suc zero) lt = refl
number_at (suc (suc zero)) lt = refl
number_at (suc (suc (suc zero))) lt = refl
number_at (suc (suc (suc (suc zero)))) lt = refl
number_at (suc (suc (suc (suc (suc zero))))) lt = refl
number_at (suc (suc (suc (suc (suc (suc zero)))))) lt = refl
number_at (suc (suc (suc (suc (suc (suc (suc zero))))))) lt = refl
number_at (suc (suc (suc (suc (suc (suc (suc (suc zero)))))))) lt = refl
number_at (suc (suc (suc (suc (suc (suc (suc (suc (suc zero))))))))) lt = refl
number_at (suc (suc (suc (suc (suc (suc (suc (suc (suc (suc k)))))))))) lt = absurd (omega arith)

-- tests with one number are one
same_number : (a b : RideFlaw) → test_number a ≡ test_number b → a ≡ b
same_number a b e = sym (test_at a) ∙ ap (λ k. get_or tests k NoTrip) e ∙ test_at b

module _ (feed : Feed) (times : Times) (days : DayTable) (ride : Ride) where
  -- the ride passes the tests before number k
  abbrev pub PassesUpTo : ℕ → Type 0
  PassesUpTo k = (flaw : RideFlaw) → test_number flaw < k → Passes feed times days ride flaw

  pub none_yet : PassesUpTo 0
  none_yet flaw lt = absurd (omega arith)

  pub one_more : (k : ℕ) → k < 10 → PassesUpTo k → Passes feed times days ride (get_or tests k NoTrip) → PassesUpTo (k + 1)
  one_more k within before here flaw lt =
      elim (cases_lt (test_number flaw) k) [
        | inl earlier ↦ before flaw earlier
        | inr late ↦ (
            let number : test_number (get_or tests k NoTrip) ≡ test_number flaw = let at = number_at k within in omega arith in
            subst (Passes feed times days ride) (same_number (get_or tests k NoTrip) flaw number) here)
      ]

  -- a ride that passes all tests is permitted
  pub passes_all : (k : ℕ) → 10 ≤ k → PassesUpTo k → IsPermittedRide feed times days ride
  passes_all k all before = permit feed times days ride (λ flaw. before flaw (let lt = number_below flaw in omega arith))

  -- the first test that fails
  pub first_at : (k : ℕ) → k < 10 → PassesUpTo k → (Passes feed times days ride (get_or tests k NoTrip) → ⊥) → IsFirstFlaw feed times days ride (get_or tests k NoTrip)
  first_at k within before fails = record { fails = fails; first = λ earlier lt. before earlier (let at = number_at k within in omega arith) }

  -- there is one first flaw
  pub one_first : (a b : RideFlaw) → IsFirstFlaw feed times days ride a → IsFirstFlaw feed times days ride b → a ≡ b
  one_first a b p q = elim (cases_order (test_number a) (test_number b)) [
    | inl same ↦ same_number a b same
    | inr either ↦ (elim either [ inl less ↦ absurd (p.fails (q.first a less)) | inr more ↦ absurd (q.fails (p.first b more)) ])
  ]

  -- and none of a permitted ride
  pub none_first : (flaw : RideFlaw) → IsPermittedRide feed times days ride → IsFirstFlaw feed times days ride flaw → ⊥
  none_first flaw permitted first = first.fails (passes feed times days ride permitted flaw)
