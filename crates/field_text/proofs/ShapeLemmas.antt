-- Texts of the shape of a pattern.
use Rattle.std.proofs.Common.{inl, inr, ◌≡◌, ℕ, zero, suc, ◌+◌, ◌<◌, ◌≤◌, true, false, ◌&&◌, eqb, List, [], ◌∷◌, ◌++◌, length, get_or, take, drop, replicate, refl, sym, ap, ◌∙◌, subst}
use Rattle.std.proofs.lemmas.Bool.{and_from, and_parts, cases_Bool, cond-false, eqb-true}
use Rattle.std.proofs.lemmas.List.{drop-drop, drop_all, drop_more, take-append-drop}
use Rattle.std.specs.Char.{is_ascii_digit}
use Rattle.std.specs.List.{list_all}
use Rattle.field_text.specs.Grammars.{is_as_expected, is_shaped, number}
use Rattle.field_text.specs.Texts.{last_digits}
use Rattle.field_text.proofs.SpellingLemmas.{last_digits-are_digits, last_digits-number, length-last_digits}

-- such a text is as long as the pattern
pub is_shaped-length : (pattern text : List ℕ) → is_shaped pattern text ≡ true → length pattern ≡ length text
unfolding is_shaped
is_shaped-length [] [] h = refl
is_shaped-length [] (b ∷ text) h = absurd (cc)
is_shaped-length (p ∷ pattern) [] h = absurd (cc)
is_shaped-length (p ∷ pattern) (b ∷ text) h = ap (λ n. suc n) (is_shaped-length pattern text (and_parts _ _ h).1)

-- and a text of another length is none
pub not_shaped : (pattern text : List ℕ) → (length pattern ≡ length text → ⊥) → false ≡ is_shaped pattern text
not_shaped pattern text h =
    elim (cases_Bool (is_shaped pattern text)) [
      | inl shaped ↦ absurd (h (is_shaped-length pattern text shaped))
      | inr other ↦ sym other
    ]

-- one byte after the other
pub is_shaped-step : (pattern text : List ℕ) (i : ℕ) → i < length pattern → i < length text
    → is_shaped (drop i pattern) (drop i text) ≡ (is_as_expected (get_or pattern i 0) (get_or text i 0) && is_shaped (drop (i + 1) pattern) (drop (i + 1) text))
unfolding is_shaped
is_shaped-step pattern text i within inside = rw (drop_more pattern i 0 within, drop_more text i 0 inside)

pub is_shaped-end : (pattern text : List ℕ) (i : ℕ) → length pattern ≤ i → length text ≤ i → is_shaped (drop i pattern) (drop i text) ≡ true
unfolding is_shaped
is_shaped-end pattern text i past over = rw (drop_all i pattern past, drop_all i text over)

-- as many digits as the pattern has zeros, and what follows them
shaped_digits : (k : ℕ) (pattern text : List ℕ) → is_shaped (replicate k 48 ++ pattern) text ≡ true
    → (length (take k text) ≡ k) × (list_all is_ascii_digit (take k text) ≡ true) × (is_shaped pattern (drop k text) ≡ true)
unfolding is_shaped
shaped_digits zero pattern text h = (refl, refl, h)
shaped_digits (suc k) pattern [] h = absurd (cc)
shaped_digits (suc k) pattern (b ∷ text) h =
    let parts = and_parts _ _ h in
    let rest = shaped_digits k pattern text parts.1 in
    (ap (λ n. suc n) rest.0, and_from _ _ parts.0 rest.1, rest.2)

-- another byte of the pattern, and what follows it
shaped_mark : (p : ℕ) (pattern text : List ℕ) → eqb p 48 ≡ false → is_shaped (p ∷ pattern) text ≡ true → (text ≡ p ∷ drop 1 text) × (is_shaped pattern (drop 1 text) ≡ true)
unfolding is_shaped
shaped_mark p pattern [] mark h = absurd (cc)
shaped_mark p pattern (b ∷ text) mark h =
    let parts = and_parts (is_as_expected p b) (is_shaped pattern text) h in
    let same : eqb p b ≡ true = sym (cond-false (eqb p 48) (is_ascii_digit b) (eqb p b) mark) ∙ parts.0 in
    (ap (λ x. x ∷ text) (sym (eqb-true p b same)), parts.1)

-- the same from a place of the text on
pub digits_at : (i k : ℕ) (pattern text : List ℕ) → is_shaped (replicate k 48 ++ pattern) (drop i text) ≡ true
    → (drop i text ≡ last_digits k (number (take k (drop i text))) ++ drop (i + k) text) × (is_shaped pattern (drop (i + k) text) ≡ true)
digits_at i k pattern text h =
    let parts = shaped_digits k pattern (drop i text) h in
    let on = drop-drop k i text in (
      sym (take-append-drop k (drop i text))
          ∙ ap (λ xs. xs ++ drop k (drop i text)) (sym (last_digits-number k (take k (drop i text)) parts.0 parts.1))
          ∙ ap (λ xs. last_digits k (number (take k (drop i text))) ++ xs) on,
      subst (λ xs. is_shaped pattern xs ≡ true) on parts.2,
    )

pub mark_at : (i p : ℕ) (pattern text : List ℕ) → eqb p 48 ≡ false → is_shaped (p ∷ pattern) (drop i text) ≡ true
    → (drop i text ≡ p ∷ drop (i + 1) text) × (is_shaped pattern (drop (i + 1) text) ≡ true)
mark_at i p pattern text mark h =
    let parts = shaped_mark p pattern (drop i text) mark h in
    let on = drop-drop 1 i text in
    (parts.0 ∙ ap (λ xs. p ∷ xs) on, subst (λ xs. is_shaped pattern xs ≡ true) on parts.1)

-- digits fit as many zeros
pub is_shaped-digits : (xs pattern rest : List ℕ) → list_all is_ascii_digit xs ≡ true → is_shaped (replicate (length xs) 48 ++ pattern) (xs ++ rest) ≡ is_shaped pattern rest
unfolding is_shaped
is_shaped-digits [] pattern rest h = refl
is_shaped-digits (x ∷ xs) pattern rest h =
    let parts = and_parts (is_ascii_digit x) (list_all is_ascii_digit xs) h in
    let here : is_as_expected 48 x ≡ true = parts.0 in
    ap (λ t. t && is_shaped (replicate (length xs) 48 ++ pattern) (xs ++ rest)) here ∙ is_shaped-digits xs pattern rest parts.1

pub is_shaped-last_digits : (width n : ℕ) (pattern rest : List ℕ) → is_shaped (replicate width 48 ++ pattern) (last_digits width n ++ rest) ≡ is_shaped pattern rest
is_shaped-last_digits width n pattern rest =
    ap (λ k. is_shaped (replicate k 48 ++ pattern) (last_digits width n ++ rest)) (sym (length-last_digits width n))
    ∙ is_shaped-digits (last_digits width n) pattern rest (last_digits-are_digits width n)
