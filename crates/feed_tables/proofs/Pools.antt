-- Texts that are cut out of one buffer.
use Rattle.std.proofs.Common.{◌≡◌, ◌≤◌, ◌<◌, ◌+◌, ◌-◌, ◌∙◌, ℕ, zero, suc, List, [], ◌∷◌, ◌++◌, take, drop, length, get_or, inl, inr, ◌⊎◌, refl, sym, ap, subst, arith}
use Rattle.std.specs.Prelude.{IsUtf8, sum_by}
use Rattle.std.specs.Str.{IsCharBoundary}
use Rattle.std.proofs.lemmas.Bool.{cases_order}
use Rattle.std.proofs.Math.Seq.{get_or-append_seam}
use Rattle.std.proofs.lemmas.List.Sums.{sum_by-cons}
use Rattle.std.proofs.lemmas.List.{get_or_append_left, length-append, length-drop, length-take-le}
use Rattle.std.proofs.lemmas.Str.{IsCharBoundary-at_seam, IsCharBoundary-end, IsUtf8-append, IsUtf8-nil}
use Rattle.feed_tables.specs.Parts.{EndAt, IsCut, parts}
use Rattle.feed_tables.proofs.TableFacts.{end-low, end-more, end-order, first-part, later-part}

-- ---- the indices

-- the text at an index
pub part-at : (ends text : List ℕ) (index : ℕ) → index < length ends
    → get_or (parts 0 ends text) index [] ≡ take (get_or ends index 0 - get_or (0 ∷ ends) index 0) (drop (get_or (0 ∷ ends) index 0) text)
part-at ends text zero lt = let n : get_or ends 0 0 - 0 ≡ get_or ends 0 0 = omega arith in first-part ends text lt ∙ ap (λ k. take k text) (sym n)
part-at ends text (suc i) lt =
    let step : suc i ≡ i + 1 = omega arith in
    rw step (later-part 0 ends text i (omega (arith, lt)))

-- it starts no later than it ends
pub start-low : (ends : List ℕ) (size index : ℕ) → EndAt 0 ends size → index < length ends → get_or (0 ∷ ends) index 0 ≤ get_or ends index 0
start-low ends size zero cut lt = omega arith
start-low ends size (suc i) cut lt =
    let step : suc i ≡ i + 1 = omega arith in
    rw step (end-order 0 ends size i cut (omega (arith, lt)))

-- the texts are as long as the buffer
pub sum-parts : (start : ℕ) (ends text : List ℕ) → EndAt start ends (length text) → start + sum_by length (parts start ends text) ≡ length text
unfolding parts EndAt
sum-parts start [] text cut = omega (arith, cut)
sum-parts start (end ∷ ends) text cut =
    let rest = sum-parts end ends text cut.1 in
    let high = end-low end ends (length text) cut.1 in
    let size = length-take-le (end - start) (drop start text) (omega (arith, length-drop start text, high)) in
    let first = sum_by-cons length (take (end - start) (drop start text)) (parts end ends text) in
    omega (arith, first, rest, cut.0, size)

-- ---- one more text

-- an index between two characters stays one
between-more : (text more : List ℕ) (i : ℕ) → IsUtf8 more → IsCharBoundary text i → IsCharBoundary (text ++ more) i
between-more text more i utf8 at = by (cases_order i (length text))
  where
    by : (i ≡ length text) ⊎ ((i < length text) ⊎ (length text < i)) → IsCharBoundary (text ++ more) i
    by (inl e) = subst (IsCharBoundary (text ++ more)) (sym e) (IsCharBoundary-at_seam (text ++ more) text more refl utf8)
    by (inr (inl lt)) = (
      omega (arith, lt, length-append text more),
      λ _ high. let same = get_or_append_left text more 0 i lt in rw same (at.1 lt (rw same at high)),
    )
    by (inr (inr gt)) = absurd (omega (arith, gt, at.0))

pub cut-more : (ends text more : List ℕ) → IsCut ends text → IsUtf8 more → IsCut (ends ++ length (text ++ more) ∷ []) (text ++ more)
cut-more ends text more cut utf8 = record {
  rising = end-more 0 ends (length text) (length (text ++ more)) cut.rising (omega (arith, length-append text more));
  utf8 = IsUtf8-append text more cut.utf8 utf8;
  between = λ k lt. by k (cases_order k (length ends)) (omega (arith, lt, length-append ends (length (text ++ more) ∷ [])));
}
  where
    by : (k : ℕ) → (k ≡ length ends) ⊎ ((k < length ends) ⊎ (length ends < k)) → k ≤ length ends → IsCharBoundary (text ++ more) (get_or (ends ++ length (text ++ more) ∷ []) k 0)
    by k (inl e) le =
        let last : length (text ++ more) ≡ get_or (ends ++ length (text ++ more) ∷ []) k 0 = sym (ap (λ n. get_or (ends ++ length (text ++ more) ∷ []) n 0) e ∙ get_or-append_seam ends (length (text ++ more)) [] 0) in
        subst (IsCharBoundary (text ++ more)) last (IsCharBoundary-end (text ++ more))
    by k (inr (inl lt)) le =
        let same = get_or_append_left ends (length (text ++ more) ∷ []) 0 k lt in
        subst (IsCharBoundary (text ++ more)) (sym same) (between-more text more (get_or ends k 0) utf8 (cut.between k lt))
    by k (inr (inr gt)) le = absurd (omega (arith, gt, le))

-- a buffer with no text
pub cut-none : (text : List ℕ) → text ≡ [] → IsCut [] text
unfolding EndAt
cut-none text e = rw e (record { rising = refl; utf8 = IsUtf8-nil; between = λ k lt. absurd (omega (arith, lt)) })

pub parts-none : (ends text : List ℕ) → ends ≡ [] → parts 0 ends text ≡ []
unfolding parts
parts-none ends text e = rw e refl
