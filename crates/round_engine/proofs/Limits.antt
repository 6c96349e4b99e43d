-- By when a ride has to arrive so that no end covers what it makes.
use Rattle.std.proofs.Common.{◌≡◌, ◌⊎◌, inl, inr, ℕ, ◌+◌, ◌<◌, ◌≤◌, ℤ, ◌≤ℤ◌, ◌<ℤ◌, List, [], ◌∷◌, ◌++◌, Contains, get_or, length, take, refl, sym, ◌∙◌, subst, arith}
use Rattle.std.proofs.lemmas.Bool.{cases_order}
use Rattle.std.proofs.lemmas.Int.{ints}
use Rattle.std.proofs.lemmas.List.{take_more}
use Rattle.std.proofs.lemmas.List.Elements.{Contains-append_left, Contains-push, Contains-push_cases}
use Rattle.flex_model.proofs.Orders.{IsNoLater_trans, lesser_left}
use Rattle.flex_model.specs.declared.moment.Deadline.{Deadline}
use Rattle.flex_model.specs.Deadline.{lesser}
use Rattle.round_engine.specs.declared.boarding.Boarding.{Boarding}
use Rattle.round_engine.specs.declared.offer.Offer.{Offer}
use Rattle.round_engine.specs.Bags.{Entry, IsKeptByAny, bag_at}
use Rattle.round_engine.specs.Chain.{deadline_up_to}
use Rattle.round_engine.specs.Limits.{IsInAny, IsLimitOver, Outruns}
use Rattle.round_engine.specs.Made.{made_pair}
use Rattle.round_engine.proofs.Apart.{in_range}

-- the pair is in one of the first bags
abbrev pub IsInFirst : List (List Entry) → ℕ → Entry → Type 0
IsInFirst bags n entry = (t : ℕ) × (t < n) × Contains (bag_at bags t) entry

module _ (deadline : Deadline) (walk : ℕ) where
  pub limit_stays : (P : Entry → Type 0) (limit : ℤ) → ((entry : Entry) → P entry → Outruns deadline walk entry → limit ≤ℤ entry.0.arrival)
      → IsLimitOver P deadline walk limit limit
  limit_stays P limit none = record { low = omega (arith, ints); none_earlier = none; is = inl refl }

  pub limit_falls : (entry : Entry) (limit : ℤ) → Outruns deadline walk entry → entry.0.arrival ≤ℤ limit
      → IsLimitOver (λ other. other ≡ entry) deadline walk limit entry.0.arrival
  limit_falls entry limit outruns low = record {
    low = low;
    none_earlier = λ other is _. subst (λ o. entry.0.arrival ≤ℤ o.0.arrival) (sym is) (omega (arith, ints));
    is = inr (entry, refl, outruns, refl);
  }

  pub limit_same : (P Q : Entry → Type 0) (limit least : ℤ) → ((entry : Entry) → P entry → Q entry) → ((entry : Entry) → Q entry → P entry)
      → IsLimitOver P deadline walk limit least → IsLimitOver Q deadline walk limit least
  limit_same P Q limit least to from l = record {
    low = l.low;
    none_earlier = λ entry q outruns. l.none_earlier entry (from entry q) outruns;
    is = elim l.is [
      | inl same ↦ inl same
      | inr found ↦ inr (found.0, to found.0 found.1, found.2, found.3)
    ];
  }

  -- over some, and then over others
  pub limit_both : (P Q R : Entry → Type 0) (limit so_far least : ℤ) → ((entry : Entry) → P entry ⊎ Q entry → R entry) → ((entry : Entry) → R entry → P entry ⊎ Q entry)
      → IsLimitOver P deadline walk limit so_far → IsLimitOver Q deadline walk so_far least → IsLimitOver R deadline walk limit least
  limit_both P Q R limit so_far least to from p q = record {
    low = (let a = p.low in let b = q.low in omega (arith, ints));
    none_earlier = λ entry r outruns. elim (from entry r) [
      | inl old ↦ (let a = p.none_earlier entry old outruns in let b = q.low in omega (arith, ints))
      | inr new ↦ q.none_earlier entry new outruns
    ];
    is = elim q.is [
      | inl same ↦ elim p.is [
        | inl first ↦ inl (same ∙ first)
        | inr found ↦ inr (found.0, to found.0 (inl found.1), found.2, found.3 ∙ sym same)
      ]
      | inr found ↦ inr (found.0, to found.0 (inr found.1), found.2, found.3)
    ];
  }

  -- pair by pair
  pub limit_none : (entries : List Entry) (limit : ℤ) → IsLimitOver (λ entry. Contains (take 0 entries) entry) deadline walk limit limit
  limit_none entries limit = limit_stays (λ entry. Contains (take 0 entries) entry) limit (λ entry c outruns. absurd (let lt = c.1 in omega arith))

  pub limit_next : (entries : List Entry) (n : ℕ) (d : Entry) (limit so_far least : ℤ) → n < length entries
      → IsLimitOver (λ entry. Contains (take n entries) entry) deadline walk limit so_far
      → IsLimitOver (λ other. other ≡ get_or entries n d) deadline walk so_far least
      → IsLimitOver (λ entry. Contains (take (n + 1) entries) entry) deadline walk limit least
  limit_next entries n d limit so_far least lt p q =
      let entry = get_or entries n d in
      let more : take (n + 1) entries ≡ take n entries ++ entry ∷ [] = take_more entries n d lt in
      limit_both (λ x. Contains (take n entries) x) (λ x. x ≡ entry) (λ x. Contains (take (n + 1) entries) x) limit so_far least
      (λ x h. elim h [
        | inl old ↦ subst (λ xs. Contains xs x) (sym more) (Contains-append_left (take n entries) (entry ∷ []) x old)
        | inr one ↦ subst (λ xs. Contains xs x) (sym more) (subst (Contains (take n entries ++ entry ∷ [])) (sym one) (Contains-push (take n entries) entry))
      ])
      (λ x c. elim (Contains-push_cases (take n entries) entry x (subst (λ xs. Contains xs x) more c)) [
        | inl old ↦ inl old
        | inr same ↦ inr (sym same)
      ])
      p q

  -- bag by bag
  pub bags_none : (bags : List (List Entry)) (limit : ℤ) → IsLimitOver (IsInFirst bags 0) deadline walk limit limit
  bags_none bags limit = limit_stays (IsInFirst bags 0) limit (λ entry h outruns. absurd (let lt = h.1 in omega arith))

  pub bags_next : (bags : List (List Entry)) (n : ℕ) (limit so_far least : ℤ) → IsLimitOver (IsInFirst bags n) deadline walk limit so_far
      → IsLimitOver (λ entry. Contains (bag_at bags n) entry) deadline walk so_far least → IsLimitOver (IsInFirst bags (n + 1)) deadline walk limit least
  bags_next bags n limit so_far least p q =
      limit_both (IsInFirst bags n) (λ entry. Contains (bag_at bags n) entry) (IsInFirst bags (n + 1)) limit so_far least
      (λ x h. elim h [
        | inl old ↦ (let lt = old.1 in (old.0, omega arith, old.2))
        | inr new ↦ (n, omega arith, new)
      ])
      (λ x h. elim (cases_order h.0 n) [
        | inl e ↦ inr (subst (λ t. Contains (bag_at bags t) x) e h.2)
        | inr (inl less) ↦ inl (h.0, less, h.2)
        | inr (inr more) ↦ absurd (let lt = h.1 in omega (arith, lt, more))
      ])
      p q

  pub bags_all : (bags : List (List Entry)) (n : ℕ) (limit least : ℤ) → length bags ≤ n → IsLimitOver (IsInFirst bags n) deadline walk limit least
      → IsLimitOver (IsInAny bags) deadline walk limit least
  bags_all bags n limit least size l =
      limit_same (IsInFirst bags n) (IsInAny bags) limit least (λ x h. (h.0, h.2))
      (λ x h. let lt = in_range bags h.0 x h.1 in (h.0, omega (arith, lt, size), h.1)) l

-- an end covers what a later ride makes of the boarding
pub covered_by_end : (ends : List (List Entry)) (boarding : Boarding) (offer : Offer) (limit least : ℤ)
    → IsLimitOver (IsInAny ends) (deadline_up_to boarding.parent) boarding.walk limit least → offer.ride.arrives ≤ℤ limit → least <ℤ offer.ride.arrives
    → IsKeptByAny ends (made_pair boarding offer)
covered_by_end ends boarding offer limit least l in_time past = elim l.is [
  | inl same ↦ absurd (omega (arith, ints, same, in_time, past))
  | inr found ↦ (
      let entry : Entry = found.0 in
      let arrives = found.3 in
      let so_far : Deadline = deadline_up_to boarding.parent in (
        found.1.0,
        record {
          entry = entry;
          among = found.1.1;
          covers = record {
            deadline = IsNoLater_trans (lesser so_far offer.deadline) so_far entry.0.deadline (lesser_left so_far offer.deadline) found.2.booked;
            arrival = omega (arith, ints, arrives, past);
            walk = found.2.short;
          };
        },
      ))
]
