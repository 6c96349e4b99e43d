-- Bytes have no two first bad lines.
use Rattle.std.proofs.Common.{◌≡◌, ◌⊎◌, ℕ, ◌+◌, List, [], ◌∷◌, ◌++◌, sym, ap, subst, ◌∙◌, append_assoc, append-nil, inl, inr}
use Rattle.std.specs.List.{count_by}
use Rattle.bound_cert.specs.Laws.{SyntaxFaultsHaveOneLine}
use Rattle.bound_cert.specs.Syntax.{AreWholeLines, BeginsCert, IsSyntaxFault, is_line_feed}
use Rattle.bound_cert.proofs.Readers.{append_fork}
use Rattle.flex_model.specs.declared.feed.Feed.{Feed}
use Rattle.flex_model.specs.declared.times.Times.{Times}

tail : (x y : ℕ) (s t : List ℕ) → x ∷ s ≡ y ∷ t → s ≡ t
tail x y s t e = cc

none_after : (xs ys : List ℕ) → xs ++ ys ≡ [] → ys ≡ []
none_after [] ys e = e
none_after (x ∷ xs) ys e = absurd (some x (xs ++ ys) e)
  where
    some : (x : ℕ) (s : List ℕ) → x ∷ s ≡ [] → ⊥
    some x s e = cc

-- what stands at the end of whole lines is nothing, or ends with a line feed
ends_whole : (xs more front : List ℕ) → xs ++ more ≡ front ++ (10 ∷ []) → (more ≡ []) ⊎ ((m : List ℕ) × (more ≡ m ++ (10 ∷ [])))
ends_whole [] more front e = inr (front, e)
ends_whole (x ∷ xs) more [] e = inl (none_after xs more (tail x 10 (xs ++ more) [] e))
ends_whole (x ∷ xs) more (f ∷ front) e = ends_whole xs more front (tail x f (xs ++ more) (front ++ (10 ∷ [])) e)

cancel : (xs ys zs : List ℕ) → xs ++ ys ≡ xs ++ zs → ys ≡ zs
cancel [] ys zs e = e
cancel (x ∷ xs) ys zs e = cancel xs ys zs (tail x x (xs ++ ys) (xs ++ zs) e)

module _ (feed : Feed) (times : Times) (bytes : List ℕ) where
  -- a fault at a later line would begin a certificate with a bad line
  later : (a b : ℕ) (first : IsSyntaxFault feed times bytes a) (second : IsSyntaxFault feed times bytes b) (more : List ℕ)
      → second.before ≡ first.before ++ more → first.after ≡ more ++ second.after → a ≡ b
  later a b first second more is after = by_whole second.whole
    where
      same : more ≡ [] → a ≡ b
      same none =
          let equal : second.before ≡ first.before = is ∙ ap (λ z. first.before ++ z) none ∙ append-nil first.before in
          first.number ∙ ap (λ z. count_by is_line_feed z + 1) (sym equal) ∙ sym second.number

      by_end : (more ≡ []) ⊎ ((m : List ℕ) × (more ≡ m ++ (10 ∷ []))) → a ≡ b
      by_end (inl none) = same none
      by_end (inr some) =
          absurd (first.bad some.0 second.after
          (after ∙ ap (λ z. z ++ second.after) some.1 ∙ append_assoc some.0 (10 ∷ []) second.after)
          (subst (λ (z : List ℕ). BeginsCert feed times z) (is ∙ ap (λ z. first.before ++ z) some.1) second.begins))

      by_whole : AreWholeLines second.before → a ≡ b
      by_whole (inl none) = same (none_after first.before more (sym is ∙ none))
      by_whole (inr some) = by_end (ends_whole first.before more some.0 (sym is ∙ some.1))

pub one_line : SyntaxFaultsHaveOneLine
one_line feed times bytes a b first second = by (append_fork first.before first.after second.before second.after (sym first.parts ∙ second.parts))
  where
    by : ((more : List ℕ) × (first.before ≡ second.before ++ more))
        ⊎ ((more : List ℕ) × (second.before ≡ first.before ++ more) × (first.after ≡ more ++ second.after)) → a ≡ b
    by (inr h) = later feed times bytes a b first second h.0 h.1 h.2
    by (inl h) =
        let rest : second.after ≡ h.0 ++ first.after = cancel second.before second.after (h.0 ++ first.after)
        (sym second.parts ∙ first.parts ∙ ap (λ z. z ++ first.after) h.1 ∙ append_assoc second.before h.0 first.after) in
        sym (later feed times bytes b a second first h.0 h.1 rest)
