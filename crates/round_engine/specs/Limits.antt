-- By when a ride has to arrive to be worth taking: none that arrives after an end with no earlier a deadline and no longer a
-- walk is. This project's own.
use Rattle.std.specs.Prelude.{◌≡◌, ◌⊎◌, ℕ, ℤ, ◌≤◌, ◌≤ℤ◌, List, Contains}
use Rattle.flex_model.specs.declared.moment.Deadline.{Deadline}
use Rattle.flex_model.specs.Deadline.{IsNoLater}
use Rattle.round_engine.specs.Bags.{Entry, bag_at}

-- the pair is booked no earlier and walks no farther
pub record Outruns (deadline : Deadline) (walk : ℕ) (entry : Entry) : Type 0 where
  pub booked : IsNoLater deadline entry.0.deadline
  pub short : entry.0.walk ≤ walk

-- The lesser one of the limit and the least arrival of those pairs with the property that are booked no earlier and walk no
-- farther.
pub record IsLimitOver (P : Entry → Type 0) (deadline : Deadline) (walk : ℕ)
    (limit least : ℤ) : Type 0 where
  pub low : least ≤ℤ limit
  pub none_earlier : (entry : Entry) → P entry → Outruns deadline walk entry
      → least ≤ℤ entry.0.arrival
  pub is : (least ≡ limit) ⊎ ((entry : Entry) × P entry × Outruns deadline walk entry
      × (entry.0.arrival ≡ least))

-- the pair is in one of the bags
abbrev pub IsInAny : List (List Entry) → Entry → Type 0
IsInAny bags entry = (t : ℕ) × Contains (bag_at bags t) entry
