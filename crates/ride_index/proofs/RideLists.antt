-- Lists of rides, as they grow.
use Rattle.std.proofs.Common.{◌≡◌, ◌↔◌, ◌⊎◌, inl, inr, List, [], ◌∷◌, ◌++◌, Contains, sym, subst}
use Rattle.std.proofs.lemmas.List.Elements.{Contains-append_cases, Contains-append_left, Contains-append_right}
use Rattle.flex_model.proofs.Found.{Contains-first, only_contained}

-- the list gained the items with the property, and no others
abbrev pub Gained : {A : Type 0} → (A → Type 0) → List A → List A → Type 0
Gained {A} P before after = (x : A) → Contains after x ↔ (Contains before x ⊎ P x)

pub gained_none : {A : Type 0} (P : A → Type 0) (xs : List A) → ((x : A) → P x → ⊥) → Gained P xs xs
gained_none P xs none x = (λ c. inl c, λ h. elim h [ inl c ↦ c | inr p ↦ absurd (none x p) ])

pub gained_one : {A : Type 0} (P : A → Type 0) (xs : List A) (one : A) → P one → ((x : A) → P x → x ≡ one) → Gained P xs (xs ++ one ∷ [])
gained_one P xs one has only x = (
  λ c. elim (Contains-append_cases xs (one ∷ []) x c) [
    | inl old ↦ inl old
    | inr new ↦ inr (subst P (sym (only_contained one x new)) has)
  ],
  λ h. elim h [
    | inl old ↦ Contains-append_left xs (one ∷ []) x old
    | inr new ↦ Contains-append_right xs (one ∷ []) x (subst (Contains (one ∷ [])) (sym (only x new)) (Contains-first one []))
  ],
)

-- the same property in other words
pub gained_same : {A : Type 0} (P Q : A → Type 0) (before after : List A) → ((x : A) → P x ↔ Q x) → Gained P before after → Gained Q before after
gained_same P Q before after same new x = (
  λ c. elim ((new x).0 c) [ inl old ↦ inl old | inr p ↦ inr ((same x).0 p) ],
  λ h. elim h [ inl old ↦ (new x).1 (inl old) | inr q ↦ (new x).1 (inr ((same x).1 q)) ],
)

-- the items with one property, and then those with another one
pub gained_both : {A : Type 0} (P Q R : A → Type 0) (before found after : List A) → Gained P before found → Gained Q found after
    → ((x : A) → (P x ⊎ Q x) ↔ R x) → Gained R before after
gained_both P Q R before found after first second both x = (
  λ c. elim ((second x).0 c) [
    | inl old ↦ elim ((first x).0 old) [ inl older ↦ inl older | inr p ↦ inr ((both x).0 (inl p)) ]
    | inr q ↦ inr ((both x).0 (inr q))
  ],
  λ h. elim h [
    | inl older ↦ (second x).1 (inl ((first x).1 (inl older)))
    | inr r ↦ elim ((both x).1 r) [
      | inl p ↦ (second x).1 (inl ((first x).1 (inr p)))
      | inr q ↦ (second x).1 (inr q)
    ]
  ],
)
