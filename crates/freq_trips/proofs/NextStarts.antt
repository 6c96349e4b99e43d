-- The next start of several repeats.
use Rattle.std.proofs.Common.{◌≡◌, ◌⊎◌, inl, inr, ◌↔◌, ℕ, ◌+◌, ◌*◌, ◌<◌, min, List, [], ◌∷◌, Bool, IsTrue, eqb, eq-eqb, Option, Some, None, Contains, get_or, length, take, sym, ◌∙◌, subst, arith}
use Rattle.std.proofs.lemmas.Bool.{cases_lt, eqb-true}
use Rattle.std.proofs.lemmas.List.{take_more}
use Rattle.std.proofs.lemmas.List.Elements.{Contains-push, Contains-push_cases, Contains-append_left}
use Rattle.std.specs.Option.{option_eq}
use Rattle.flex_model.specs.declared.trip.Repeat.{Repeat}
use Rattle.freq_trips.specs.Starts.{IsLeastFrom, IsStartOf, sooner}

-- the least number with one property or the other
pub least_of_either : (P Q : ℕ → Type 0) (least : ℕ) (a b : Option ℕ) → IsLeastFrom P least a → IsLeastFrom Q least b
    → IsLeastFrom (λ n. P n ⊎ Q n) least (sooner a b)
least_of_either P Q least None None p q = λ n h late. elim h [ inl x ↦ p n x late | inr y ↦ q n y late ]
least_of_either P Q least None (Some b) p q = (inr q.0, q.1, λ n h late. elim h [ inl x ↦ absurd (p n x late) | inr y ↦ q.2 n y late ])
least_of_either P Q least (Some a) None p q = (inl p.0, p.1, λ n h late. elim h [ inl x ↦ p.2 n x late | inr y ↦ absurd (q n y late) ])
least_of_either P Q least (Some a) (Some b) p q =
    let first = p.1 in
    let second = q.1 in (
      elim (cases_lt a b) [
        | inl lt ↦ (let e : a ≡ min a b = omega arith in inl (subst P e p.0))
        | inr ge ↦ (let e : b ≡ min a b = omega arith in inr (subst Q e q.0))
      ],
      omega arith,
      λ n h late. elim h [
        | inl x ↦ (let le = p.2 n x late in omega arith)
        | inr y ↦ (let le = q.2 n y late in omega arith)
      ],
    )

-- the same property in other words
pub least_of_same : (P Q : ℕ → Type 0) (least : ℕ) (o : Option ℕ) → ((n : ℕ) → P n ↔ Q n) → IsLeastFrom P least o → IsLeastFrom Q least o
least_of_same P Q least None same p = λ n y late. p n ((same n).1 y) late
least_of_same P Q least (Some next) same p = ((same next).0 p.0, p.1, λ n y late. p.2 n ((same n).1 y) late)

-- one of the repeats has a start then
abbrev pub IsStartAmong : List Repeat → ℕ → Type 0
IsStartAmong repeats start =
    (repeat : Repeat) × (n : ℕ) × Contains repeats repeat × (start ≡ repeat.first + n * repeat.headway)
    × (start < repeat.end)

-- the next start of one repeat more
pub one_more : (repeats : List Repeat) (i least : ℕ) (repeat : Repeat) (a b : Option ℕ) → i < length repeats → IsLeastFrom (IsStartAmong (take i repeats)) least a
    → IsLeastFrom (IsStartOf (get_or repeats i repeat)) least b → IsLeastFrom (IsStartAmong (take (i + 1) repeats)) least (sooner a b)
one_more repeats i least repeat a b within p q =
    let next = get_or repeats i repeat in
    let all = take_more repeats i repeat within in
    least_of_same (λ n. IsStartAmong (take i repeats) n ⊎ IsStartOf next n) (IsStartAmong (take (i + 1) repeats)) least (sooner a b)
    (λ n. (
      λ h. subst (λ these. IsStartAmong these n) (sym all) (elim h [
        | inl x ↦ (x.0, x.1, Contains-append_left (take i repeats) (next ∷ []) x.0 x.2, x.3, x.4)
        | inr y ↦ (next, y.0, Contains-push (take i repeats) next, y.1, y.2)
      ]),
      λ h.
          let g = subst (λ these. IsStartAmong these n) all h in
          elim (Contains-push_cases (take i repeats) next g.0 g.2) [
            | inl old ↦ inl (g.0, g.1, old, g.3, g.4)
            | inr same ↦ inr (subst (λ r. IsStartOf r n) (sym same) (g.1, g.3, g.4))
          ],
    ))
    (least_of_either (IsStartAmong (take i repeats)) (IsStartOf next) least a b p q)

-- without a repeat there is no start
pub none_yet : (least : ℕ) → IsLeastFrom (IsStartAmong []) least None
none_yet least = λ n h late. (let within = h.2.1 in omega arith)

-- the next start from a number on is that number just where it is one
pub is_next : (P : ℕ → Type 0) (n : ℕ) (o : Option ℕ) (b : Bool) → b ≡ option_eq eqb o (Some n) → IsLeastFrom P n o → IsTrue b ↔ P n
is_next P n None b is h = (λ e. absurd cc, λ p. absurd (h n p (omega arith)))
is_next P n (Some next) b is h =
    let late = h.1 in (
      λ e. (let same : next ≡ n = eqb-true next n (sym is ∙ e) in subst P same h.0),
      λ p. (let le = h.2 n p (omega arith) in let same : next ≡ n = omega arith in is ∙ eq-eqb next n same),
    )
