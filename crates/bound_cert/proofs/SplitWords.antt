-- The first line of bytes, and its words.
use Rattle.std.proofs.Common.{◌≡◌, ℕ, ◌+◌, ◌<◌, ◌≤◌, Bor, Bool, true, false, cond, ◌&&◌, ltb, nat_le, List, [], ◌∷◌, ◌++◌, length, map, take, drop, IsUtf8, Some, None, Result, Ok, Err, refl, sym, ap, ◌∙◌, append_assoc, arith}
use Rattle.std.specs.Prelude.{position}
use Rattle.std.specs.List.{after_first, before_first, count_by, position_or_len, slice_split}
use Rattle.std.specs.Str.{is_utf8}
use Rattle.std.proofs.lemmas.Bool.{and_from, false_from_ne_true, le-leb, leb-true, lt-ltb, ltb-true}
use Rattle.std.proofs.lemmas.List.{append-nil, length-drop, length-take, map-append}
use Rattle.std.proofs.lemmas.List.Splits.{slice_split_first, slice_split_none}
use Rattle.std.proofs.lemmas.List.Sums.{fails_before_first}
use Rattle.std.proofs.lemmas.Option.{none-some, same_Some}
use Rattle.std.proofs.lemmas.Str.{IsUtf8-from_is_utf8, is_utf8-from_IsUtf8}
use Rattle.bound_cert.specs.Reading.{is_space, words_at}
use Rattle.bound_cert.specs.Syntax.{is_line_feed}

-- the first word, where a space follows it
pub first_word : (text word after : List ℕ) → position_or_len is_space text < length text → word ≡ before_first is_space text → after ≡ after_first is_space text
    → (slice_split is_space text ≡ word ∷ slice_split is_space after) × (length after < length text)
first_word text word after within is is' =
    let shorter = length-drop (position_or_len is_space text + 1) text in (
      slice_split_first is_space text 0 within ∙ ap (λ w. w ∷ slice_split is_space (after_first is_space text)) (sym is) ∙ ap (λ z. word ∷ slice_split is_space z) (sym is'),
      omega (arith, within, shorter, ap (λ z. length z) is'),
    )

-- the only word, where no space follows
pub last_word : (text : List ℕ) → position_or_len is_space text ≡ length text → slice_split is_space text ≡ text ∷ []
last_word text none =
    slice_split_none is_space text (λ k d low. fails_before_first is_space text k d (omega (arith, low, none)))

-- ---- the first line

-- where the first line feed stands
found_at : {X : Type 0} (p : X → Bool) (xs : List X) (i : ℕ) → position p xs ≡ Some i → (position_or_len p xs ≡ i) × (i < length xs)
found_at p xs i e = by (ltb (position_or_len p xs) (length xs)) refl e
  where
    by : (b : Bool) → ltb (position_or_len p xs) (length xs) ≡ b → cond b (Some (position_or_len p xs)) None ≡ Some i → (position_or_len p xs ≡ i) × (i < length xs)
    by true is e =
        let same = same_Some (position_or_len p xs) i e in
        let low = ltb-true (position_or_len p xs) (length xs) is in
        (same, omega (arith, same, low))
    by false is e = absurd (none-some i e)

abbrev is_ended : List ℕ → Bool
is_ended bytes = ltb (length (before_first is_line_feed bytes)) (length bytes)

abbrev is_short : List ℕ → Bool
is_short first = nat_le (count_by is_space first) 9

abbrev found : List ℕ → Result (List (List ℕ) × List ℕ) ℕ
found bytes = Ok (slice_split is_space (before_first is_line_feed bytes), after_first is_line_feed bytes)

pub no_feed : (bytes : List ℕ) → position is_line_feed bytes ≡ None → words_at bytes ≡ Err (length bytes)
unfolding words_at
no_feed bytes none =
    let first = before_first is_line_feed bytes in
    let n = position_or_len is_line_feed bytes in
    let ended : is_ended bytes ≡ false = false_from_ne_true (is_ended bytes) (λ h.
    let lt = ltb-true (length first) (length bytes) h in
    let cut = length-take n bytes in
    none-some n (sym none ∙ ap (λ b. cond b (Some n) None) (lt-ltb n (length bytes) (omega (arith, lt, cut))))) in
    ap (λ b. cond (b && is_short first && is_utf8 first) (found bytes) (Err (length bytes))) ended

and_false : (b c : Bool) → c ≡ false → (b && c) ≡ false
and_false true c e = e
and_false false c e = refl

pub too_many : (bytes : List ℕ) (end : ℕ) → position is_line_feed bytes ≡ Some end → 9 < count_by is_space (take end bytes) → words_at bytes ≡ Err (length bytes)
unfolding words_at
too_many bytes end at many =
    let first = before_first is_line_feed bytes in
    let same : first ≡ take end bytes = ap (λ n. take n bytes) (found_at is_line_feed bytes end at).0 in
    let count : count_by is_space first ≡ count_by is_space (take end bytes) = ap (λ z. count_by is_space z) same in
    let short : is_short first ≡ false = false_from_ne_true (is_short first) (λ h. let le = leb-true (count_by is_space first) 9 h in omega (arith, le, count, many)) in
    ap (λ b. cond (b && is_utf8 first) (found bytes) (Err (length bytes))) (and_false (is_ended bytes) (is_short first) short)

pub no_text : (bytes : List ℕ) (end : ℕ) → position is_line_feed bytes ≡ Some end → ¬ IsUtf8 (take end bytes) → words_at bytes ≡ Err (length bytes)
unfolding words_at
no_text bytes end at none =
    let first = before_first is_line_feed bytes in
    let same : first ≡ take end bytes = ap (λ n. take n bytes) (found_at is_line_feed bytes end at).0 in
    let utf8 : is_utf8 first ≡ false = false_from_ne_true (is_utf8 first) (λ h. none (IsUtf8-from_is_utf8 (take end bytes) (ap is_utf8 (sym same) ∙ h))) in
    ap (λ b. cond b (found bytes) (Err (length bytes))) (and_false (is_ended bytes && is_short first) (is_utf8 first) utf8)

pub words_are : (bytes : List ℕ) (end : ℕ) → position is_line_feed bytes ≡ Some end → count_by is_space (take end bytes) ≤ 9 → IsUtf8 (take end bytes)
    → words_at bytes ≡ Ok (slice_split is_space (take end bytes), drop (end + 1) bytes)
unfolding words_at
words_are bytes end at few utf8 =
    let first = before_first is_line_feed bytes in
    let where_ = found_at is_line_feed bytes end at in
    let same : first ≡ take end bytes = ap (λ n. take n bytes) where_.0 in
    let rest : after_first is_line_feed bytes ≡ drop (end + 1) bytes = ap (λ n. drop (n + 1) bytes) where_.0 in
    let low = where_.1 in
    let cut = length-take (position_or_len is_line_feed bytes) bytes in
    let ended : is_ended bytes ≡ true = lt-ltb (length first) (length bytes) (omega (arith, low, cut, where_.0)) in
    let count : count_by is_space first ≡ count_by is_space (take end bytes) = ap (λ z. count_by is_space z) same in
    let short : is_short first ≡ true = le-leb (count_by is_space first) 9 (omega (arith, few, count)) in
    let text : is_utf8 first ≡ true = ap is_utf8 same ∙ is_utf8-from_IsUtf8 (take end bytes) utf8 in
    ap (λ b. cond b (found bytes) (Err (length bytes))) (and_from (is_ended bytes && is_short first) (is_utf8 first) (and_from (is_ended bytes) (is_short first) ended short) text)
    ∙ ap (λ z. Ok (slice_split is_space z, after_first is_line_feed bytes)) same ∙ ap (λ z. Ok (slice_split is_space (take end bytes), z)) rest

-- one more word was taken
pub one_more : (words more : List (Bor (List ℕ))) (word : Bor (List ℕ)) (left rest all : List (List ℕ)) → more ≡ words ++ word ∷ [] → left ≡ word.now ∷ rest
    → map (λ w. w.now) words ++ left ≡ all → map (λ w. w.now) more ++ rest ≡ all
one_more words more word left rest all is next so_far =
    ap (λ ws. map (λ w. w.now) ws ++ rest) is ∙ ap (λ z. z ++ rest) (map-append (λ w. w.now) words (word ∷ []))
    ∙ append_assoc (map (λ w. w.now) words) (word.now ∷ []) rest ∙ ap (λ z. map (λ w. w.now) words ++ z) (sym next) ∙ so_far

-- the last word was taken
pub no_more : (words more : List (Bor (List ℕ))) (word : Bor (List ℕ)) (left all : List (List ℕ)) → more ≡ words ++ word ∷ [] → left ≡ word.now ∷ []
    → map (λ w. w.now) words ++ left ≡ all → map (λ w. w.now) more ≡ all
no_more words more word left all is next so_far =
    sym (append-nil (map (λ w. w.now) more)) ∙ one_more words more word left [] all is next so_far
