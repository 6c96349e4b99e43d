-- A line of words is read as its words.
use Rattle.std.proofs.Common.{◌≡◌, ◌≢◌, ◌⊎◌, ℕ, ◌+◌, ◌<◌, ◌≤◌, Bool, true, false, cond, ◌&&◌, ltb, nat_le, List, [], ◌∷◌, ◌++◌, length, get_or, drop, All, Option, Some, None, Ok, Err, refl, sym, ap, subst, ◌∙◌, append_assoc, arith, inl, inr}
use Rattle.std.specs.List.{after_first, before_first, count_by, join_with_byte, list_all, position_or_len, slice_split}
use Rattle.std.specs.Str.{IsAscii, is_utf8}
use Rattle.std.proofs.lemmas.Bool.{and_from, and_parts, eqb-true, false≢true, le-leb, leb-true, lt-ltb, ltb-true}
use Rattle.std.proofs.lemmas.Bool.Decides.{nat_tests}
use Rattle.std.proofs.lemmas.List.{drop_at, length-append, length-take, take_at}
use Rattle.std.proofs.lemmas.List.Elements.{All-cons, All-nil}
use Rattle.std.proofs.lemmas.List.Folds.{list_all-append}
use Rattle.std.proofs.lemmas.List.Splits.{join_with_byte-slice_split, length-slice_split, slice_split_at, slice_split_none}
use Rattle.std.proofs.lemmas.List.Sums.{passes_at_first, split_at_first}
use Rattle.std.proofs.lemmas.Str.{IsUtf8-from_ascii, is_utf8-from_IsUtf8}
use Rattle.std.proofs.lemmas.Str.Ascii.{IsAscii-cons, IsAscii-nil}
use Rattle.bound_cert.specs.Reading.{Read, ◌>>=◌, is_space, line_at, told, words_at}
use Rattle.bound_cert.specs.Syntax.{is_line_feed}
use Rattle.query_io.specs.AnswerText.{line}
use Rattle.bound_cert.proofs.Readers.{IsReader, bind_err, bind_ok, done, failed, ok_is, ok_not_err}

-- a byte from ! to ~
abbrev pub is_graphic : ℕ → Bool
is_graphic b = nat_le 33 b && nat_le b 126

abbrev is_inner : ℕ → Bool
is_inner b = nat_le 32 b && nat_le b 126

abbrev pub AreWords : List (List ℕ) → Type 0
AreWords [] = Unit {0}
AreWords (w ∷ ws) = (list_all is_graphic w ≡ true) × AreWords ws

-- ---- bytes of words

inner-graphic : (b : ℕ) → is_graphic b ≡ true → is_inner b ≡ true
inner-graphic b h = grind (arith, nat_tests)

not_space : (b : ℕ) → is_graphic b ≡ true → is_space b ≡ false
not_space b h = grind (arith, nat_tests)

not_line_feed : (b : ℕ) → is_inner b ≡ true → is_line_feed b ≡ false
not_line_feed b h = grind (arith, nat_tests)

small : (b : ℕ) → is_inner b ≡ true → b < 128
small b h = let parts = and_parts (nat_le 32 b) (nat_le b 126) h in let le = leb-true b 126 parts.1 in omega (arith, le)

all_inner : (w : List ℕ) → list_all is_graphic w ≡ true → list_all is_inner w ≡ true
all_inner [] h = refl
all_inner (b ∷ w) h = let parts = and_parts (is_graphic b) (list_all is_graphic w) h in and_from _ _ (inner-graphic b parts.0) (all_inner w parts.1)

no_spaces : (w : List ℕ) → list_all is_graphic w ≡ true → All (λ b. is_space b ≡ false) w
no_spaces [] h = All-nil (λ b. is_space b ≡ false)
no_spaces (b ∷ w) h =
    let parts = and_parts (is_graphic b) (list_all is_graphic w) h in
    All-cons (λ b. is_space b ≡ false) b w (not_space b parts.0) (no_spaces w parts.1)

joined_inner : (ws : List (List ℕ)) → AreWords ws → list_all is_inner (join_with_byte 32 ws) ≡ true
joined_inner [] h = refl
joined_inner (w ∷ []) h = all_inner w h.0
joined_inner (w ∷ v ∷ ws) h =
    list_all-append is_inner w (32 ∷ join_with_byte 32 (v ∷ ws)) ∙ and_from _ _ (all_inner w h.0) (and_from _ _ refl (joined_inner (v ∷ ws) h.1))

inner-IsAscii : (xs : List ℕ) → list_all is_inner xs ≡ true → IsAscii xs
inner-IsAscii [] h = IsAscii-nil
inner-IsAscii (x ∷ xs) h = let parts = and_parts (is_inner x) (list_all is_inner xs) h in IsAscii-cons x xs (small x parts.0) (inner-IsAscii xs parts.1)

-- ---- the first line

pub feed_at : (xs rest : List ℕ) → list_all is_inner xs ≡ true → position_or_len is_line_feed (xs ++ 10 ∷ rest) ≡ length xs
feed_at [] rest h = refl
feed_at (x ∷ xs) rest h =
    let parts = and_parts (is_inner x) (list_all is_inner xs) h in
    rw (not_line_feed x parts.0) (ap (λ (n : ℕ). 1 + n) (feed_at xs rest parts.1) ∙ omega arith)

-- a line with no further line feed in it is told apart by its end
pub line_before : (xs rest : List ℕ) → list_all is_inner xs ≡ true → before_first is_line_feed (xs ++ 10 ∷ rest) ≡ xs
line_before xs rest h = rw (feed_at xs rest h) (take_at xs (10 ∷ rest) (length xs) refl)

pub line_after : (xs rest : List ℕ) → list_all is_inner xs ≡ true → after_first is_line_feed (xs ++ 10 ∷ rest) ≡ rest
line_after xs rest h =
    ap (λ (n : ℕ). drop (n + 1) (xs ++ 10 ∷ rest)) (feed_at xs rest h)
    ∙ ap (λ (z : List ℕ). drop (length xs + 1) z) (sym (append_assoc xs (10 ∷ []) rest))
    ∙ drop_at (xs ++ 10 ∷ []) rest (length xs + 1) (length-append xs (10 ∷ []))

head_is : (x z : ℕ) (s t : List ℕ) → x ∷ s ≡ z ∷ t → x ≡ z
head_is x z s t h = cc

tail_is : (x z : ℕ) (s t : List ℕ) → x ∷ s ≡ z ∷ t → s ≡ t
tail_is x z s t h = cc

-- a line that begins with a whole line is that line
before_line : (xs next more : List ℕ) → list_all is_inner xs ≡ true → xs ++ (10 ∷ []) ≡ next ++ (10 ∷ more) → xs ≡ next
before_line [] [] more h e = refl
before_line [] (n ∷ next) more h e =
    let same = ap (λ (z : List ℕ). length z) (tail_is 10 n [] (next ++ (10 ∷ more)) e) in
    absurd (omega (arith, same, length-append next (10 ∷ more)))
before_line (x ∷ xs) [] more h e =
    let parts = and_parts (is_inner x) (list_all is_inner xs) h in
    let is : x ≡ 10 = head_is x 10 (xs ++ (10 ∷ [])) more e in
    absurd (false≢true (sym (not_line_feed x parts.0) ∙ ap is_line_feed is))
before_line (x ∷ xs) (n ∷ next) more h e =
    let parts = and_parts (is_inner x) (list_all is_inner xs) h in
    let heads = head_is x n (xs ++ (10 ∷ [])) (next ++ (10 ∷ more)) e in
    let tails = before_line xs next more parts.1 (tail_is x n (xs ++ (10 ∷ [])) (next ++ (10 ∷ more)) e) in
    ap (λ (b : ℕ). b ∷ xs) heads ∙ ap (λ (z : List ℕ). n ∷ z) tails

-- ---- words

pub split_joined : (ws : List (List ℕ)) → ws ≢ [] → AreWords ws → slice_split is_space (join_with_byte 32 ws) ≡ ws
split_joined [] some h = absurd (some refl)
split_joined (w ∷ []) some h = slice_split_none is_space w (no_spaces w h.0)
split_joined (w ∷ v ∷ ws) some h =
    slice_split_at is_space w 32 (join_with_byte 32 (v ∷ ws)) (no_spaces w h.0) refl
    ∙ ap (λ (vs : List (List ℕ)). w ∷ vs) (split_joined (v ∷ ws) (λ e. cc) h.1)

-- a value that a test lets pass
cond_ok : {X : Type 0} (b : Bool) (x y : X) (e : ℕ) → cond b (Ok x) (Err e) ≡ Ok y → (b ≡ true) × (x ≡ y)
cond_ok true x y e h = (refl, ok_is x y h)
cond_ok false x y e h = absurd (ok_not_err (failed e) y e h refl)

cond_err : {X : Type 0} (b : Bool) (x : X) (e d : ℕ) → cond b (Ok x) (Err e) ≡ Err d → e ≡ d
cond_err {X = X} true x e d h = absurd (ok_not_err (done x) x d refl h)
cond_err {X = X} false x e d h = by h
  where
    by : failed {A = X} e ≡ failed d → e ≡ d
    by h = cc

abbrev is_line : List ℕ → Bool
is_line bytes =
    let first = before_first is_line_feed bytes in
    ltb (length first) (length bytes) && nat_le (count_by is_space first) 9 && is_utf8 first

pub words_at_sound : (bytes : List ℕ) (ws : List (List ℕ)) (rest : List ℕ) → words_at bytes ≡ Ok (ws, rest) → bytes ≡ line ws ++ rest
unfolding words_at
words_at_sound bytes ws rest e =
    let first = before_first is_line_feed bytes in
    let at = position_or_len is_line_feed bytes in
    let g = cond_ok (is_line bytes) (slice_split is_space first, after_first is_line_feed bytes) (ws, rest) (length bytes) e in
    let tests = and_parts (ltb (length first) (length bytes)) (nat_le (count_by is_space first) 9) (and_parts (ltb (length first) (length bytes) && nat_le (count_by is_space first) 9) (is_utf8 first) g.0).0 in
    let shorter : length first < length bytes = ltb-true (length first) (length bytes) tests.0 in
    let within : at < length bytes = omega (arith, shorter, length-take at bytes) in
    let feed : get_or bytes at 0 ≡ 10 = eqb-true (get_or bytes at 0) 10 (passes_at_first is_line_feed bytes 0 within) in
    let whole : bytes ≡ first ++ (10 ∷ after_first is_line_feed bytes) =
    split_at_first is_line_feed bytes 0 within ∙ ap (λ (b : ℕ). first ++ (b ∷ after_first is_line_feed bytes)) feed in
    let joined : first ≡ join_with_byte 32 (slice_split is_space first) = sym (join_with_byte-slice_split 32 first) in
    let is : bytes ≡ line (slice_split is_space first) ++ after_first is_line_feed bytes =
    whole ∙ ap (λ (z : List ℕ). z ++ (10 ∷ after_first is_line_feed bytes)) joined
    ∙ sym (append_assoc (join_with_byte 32 (slice_split is_space first)) (10 ∷ []) (after_first is_line_feed bytes)) in
    subst (λ (q : List (List ℕ) × List ℕ). bytes ≡ line q.0 ++ q.1) g.1 is

pub words_at_complete : (ws : List (List ℕ)) (rest : List ℕ) → ws ≢ [] → AreWords ws → length ws ≤ 10 → words_at (line ws ++ rest) ≡ Ok (ws, rest)
unfolding words_at
words_at_complete ws rest some words few =
    let xs = join_with_byte 32 ws in
    let inner = joined_inner ws words in
    let before = line_before xs rest inner in
    let after = line_after xs rest inner in
    let split = split_joined ws some words in
    let short : ltb (length xs) (length (xs ++ 10 ∷ rest)) ≡ true = lt-ltb (length xs) (length (xs ++ 10 ∷ rest)) (omega (arith, length-append xs (10 ∷ rest))) in
    let count : count_by is_space xs ≤ 9 = omega (arith, length-slice_split is_space xs, ap (λ (vs : List (List ℕ)). length vs) split) in
    let spaces : nat_le (count_by is_space xs) 9 ≡ true = le-leb (count_by is_space xs) 9 count in
    let utf8 : is_utf8 xs ≡ true = is_utf8-from_IsUtf8 xs (IsUtf8-from_ascii xs (inner-IsAscii xs inner)) in
    ap words_at (append_assoc xs (10 ∷ []) rest) ∙ rw (before, after, short, spaces, utf8, split) refl

pub words_at_err : (bytes : List ℕ) (left : ℕ) → words_at bytes ≡ Err left → length bytes ≡ left
unfolding words_at
words_at_err bytes left e =
    cond_err (is_line bytes) (slice_split is_space (before_first is_line_feed bytes), after_first is_line_feed bytes) (length bytes) left e

-- ---- lines that tell a value

-- how a value stands in a line: its words
pub record IsLine {A : Type 0} (words : A → List (List ℕ)) (Valid : A → Type 0) (value : List (List ℕ) → Option A) : Type 0 where
  pub sound : (ws : List (List ℕ)) (a : A) → value ws ≡ Some a → Valid a × (ws ≡ words a)
  pub complete : (a : A) → Valid a → value (words a) ≡ Some a
  pub some : (a : A) → words a ≢ []
  pub few : (a : A) → length (words a) ≤ 10
  pub are_words : (a : A) → Valid a → AreWords (words a)

told_ok : {A : Type 0} (bytes rest : List ℕ) (o : Option A) (a : A) (after : List ℕ) → told bytes rest o ≡ Ok (a, after) → (o ≡ Some a) × (rest ≡ after)
told_ok bytes rest (Some x) a after e = let same = ok_is (x, rest) (a, after) e in (ap (λ q. Some q.0) same, ap (λ q. q.1) same)
told_ok bytes rest None a after e = absurd (ok_not_err (failed (length bytes)) (a, after) (length bytes) e refl)

told_err : {A : Type 0} (bytes rest : List ℕ) (o : Option A) (left : ℕ) → told bytes rest o ≡ Err left → length bytes ≡ left
told_err bytes rest (Some x) left e = absurd (ok_not_err (done (x, rest)) (x, rest) left refl e)
told_err {A = A} bytes rest None left e = by e
  where
    by : failed {A = A × List ℕ} (length bytes) ≡ failed left → length bytes ≡ left
    by h = cc

module _ {A : Type 0} (words : A → List (List ℕ)) (Valid : A → Type 0) (value : List (List ℕ) → Option A) (is : IsLine words Valid value) (one : A) (valid_one : Valid one) where
  abbrev pub line_text : A → List ℕ
  line_text a = line (words a)

  abbrev tell : List ℕ → List (List ℕ) × List ℕ → Read A
  tell bytes w = told bytes w.1 (value w.0)

  line_complete : (a : A) (rest : List ℕ) → Valid a → line_at value (line_text a ++ rest) ≡ Ok (a, rest)
  line_complete a rest valid =
      ap (λ (r : Read (List (List ℕ))). r >>= tell (line_text a ++ rest)) (words_at_complete (words a) rest (is.some a) (is.are_words a valid) (is.few a))
      ∙ ap (λ (o : Option A). told (line_text a ++ rest) rest o) (is.complete a valid)

  -- where a line fails, all bytes are left
  all_left : (bytes : List ℕ) (left : ℕ) → line_at value bytes ≡ Err left → length bytes ≡ left
  all_left bytes left e = by (bind_err (words_at bytes) (tell bytes) left e)
    where
      by : (words_at bytes ≡ Err left) ⊎ ((w : List (List ℕ) × List ℕ) × (words_at bytes ≡ Ok w) × (tell bytes w ≡ Err left)) → length bytes ≡ left
      by (inl h) = words_at_err bytes left h
      by (inr h) = told_err bytes h.0.1 (value h.0.0) left h.2

  pub line_reads : IsReader line_text Valid (line_at value)
  line_reads = record {
    sound = λ bytes a rest e.
        let b = bind_ok (words_at bytes) (tell bytes) (a, rest) e in
        let t = told_ok bytes b.0.1 (value b.0.0) a rest b.2 in
        let v = is.sound b.0.0 a t.0 in
        (v.0, words_at_sound bytes b.0.0 b.0.1 b.1 ∙ ap (λ (ws : List (List ℕ)). line ws ++ b.0.1) v.1 ∙ ap (λ (z : List ℕ). line_text a ++ z) t.1);
    complete = line_complete;
    stops = λ bytes left e. record {
      before = [];
      after = bytes;
      parts = refl;
      left_is = all_left bytes left e;
      whole = inl refl;
      begins = record { value = one; valid = valid_one; more = line_text one; is = refl };
      bad = λ next rest after begun. by bytes left e next rest after begun.value begun.valid begun.more (begun.is ∙ append_assoc next (10 ∷ []) begun.more);
    };
    lines = λ a valid. inr (join_with_byte 32 (words a), refl);
  }
    where
      -- a line that ends where the next one does is that line
      by : (bytes : List ℕ) (left : ℕ) → line_at value bytes ≡ Err left → (next rest : List ℕ) → bytes ≡ next ++ 10 ∷ rest
          → (a : A) → Valid a → (more : List ℕ) → line_text a ≡ next ++ (10 ∷ more) → ⊥
      by bytes left e next rest after a valid more begun =
          let inner = joined_inner (words a) (is.are_words a valid) in
          let whole = before_line (join_with_byte 32 (words a)) next more inner begun in
          let same : bytes ≡ line_text a ++ rest =
          after ∙ ap (λ (z : List ℕ). z ++ (10 ∷ rest)) (sym whole) ∙ sym (append_assoc (join_with_byte 32 (words a)) (10 ∷ []) rest) in
          ok_not_err (line_at value bytes) (a, rest) left (ap (line_at value) same ∙ line_complete a rest valid) e
