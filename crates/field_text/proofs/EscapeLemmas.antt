-- Escapes are the kit's encodings by a set of bytes, and its decoding undoes them.
use Rattle.std.proofs.Common.{◌≡◌, ℕ, ◌/◌, ◌%◌, ◌<◌, Bool, true, false, not, cond, inl, inr, eqb, ltb, length, List, [], ◌∷◌, ◌++◌, IsUtf8, All, refl, sym, ap, ◌∙◌, subst, arith}
use Rattle.std.specs.List.{list_all}
use Rattle.std.specs.Str.{all_scalars, bytes_eq, encode_utf8_all}
use Rattle.std.specs.Cmp.Lexicographic.{bytes_decides}
use Rattle.std.proofs.Math.Utf8.{encode}
use Rattle.std.proofs.lemmas.Bool.{agree_below, agree_below_at, and_from, and_parts, cases_Bool, eqb-false, eqb-true, ltb-true}
use Rattle.std.proofs.lemmas.Bool.Decides.{nat_tests}
use Rattle.std.proofs.lemmas.List.{nil_from_length}
use Rattle.std.proofs.lemmas.List.Elements.{All-cons, All-nil}
use Rattle.std.proofs.lemmas.List.Folds.{list_all-append}
use Rattle.percent_encoding.specs.AsciiSet.{should_percent_encode}
use Rattle.percent_encoding.specs.Percent.{encode_byte, percent_decode, percent_encode, percent_encode_byte}
use Rattle.percent_encoding.proofs.PercentLemmas.{IsByte, percent_encode-nil, round_trip}
use Rattle.field_text.specs.Escapes.{IsNoEscape, Unescapes}
use Rattle.field_text.specs.Grammars.{IsEscapeOf, escape, escaped_byte, hex_digit, stands_for_itself}
use Rattle.field_text.specs.Laws.{EscapesAreOfOneId, EscapesAreReadBack}
use Rattle.field_text.specs.declared.escape.TheConstants.{ESCAPED}

pub escaped_byte-plain : (b : ℕ) → stands_for_itself b ≡ true → escaped_byte b ≡ b ∷ []
escaped_byte-plain b plain = ap (λ t. cond t (b ∷ []) (37 ∷ hex_digit (b / 16) ∷ hex_digit (b % 16) ∷ [])) plain

pub escaped_byte-other : (b : ℕ) → stands_for_itself b ≡ false → escaped_byte b ≡ 37 ∷ hex_digit (b / 16) ∷ hex_digit (b % 16) ∷ []
escaped_byte-other b other = ap (λ t. cond t (b ∷ []) (37 ∷ hex_digit (b / 16) ∷ hex_digit (b % 16) ∷ [])) other

-- the bytes of a text are bytes
encode-bytes : (c : ℕ) → all_scalars (c ∷ []) ≡ true → list_all (λ b. ltb b 256) (encode c) ≡ true
unfolding encode
encode-bytes c scalar = grind (arith, nat_tests)

encodes-bytes : (cs : List ℕ) → all_scalars cs ≡ true → list_all (λ b. ltb b 256) (encode_utf8_all cs) ≡ true
encodes-bytes [] scalars = refl
encodes-bytes (c ∷ cs) scalars =
    let parts = and_parts _ _ scalars in
    list_all-append (λ b. ltb b 256) (encode c) (encode_utf8_all cs) ∙ and_from _ _ (encode-bytes c (and_from _ _ parts.0 refl)) (encodes-bytes cs parts.1)

pub utf8-bytes : (xs : List ℕ) → IsUtf8 xs → list_all (λ b. ltb b 256) xs ≡ true
utf8-bytes xs (cs, (scalars, same)) = ap (list_all (λ b. ltb b 256)) (sym same) ∙ encodes-bytes cs scalars

all-bytes : (xs : List ℕ) → list_all (λ b. ltb b 256) xs ≡ true → All IsByte xs
all-bytes [] h = All-nil IsByte
all-bytes (b ∷ xs) h =
    let parts = and_parts (ltb b 256) (list_all (λ x. ltb x 256) xs) h in
    All-cons IsByte b xs (ltb-true b 256 parts.0) (all-bytes xs parts.1)

-- each of the 256 bytes is escaped as it is encoded
bytes-agree : agree_below (λ b. bytes_eq (escaped_byte b) (encode_byte ESCAPED b)) (λ b. true) 256 ≡ true
unfolding percent_encode_byte should_percent_encode
bytes-agree = refl

escaped_byte-encoded : (b : ℕ) → b < 256 → escaped_byte b ≡ encode_byte ESCAPED b
escaped_byte-encoded b small =
    (bytes_decides _ _).0 (agree_below_at (λ b. bytes_eq (escaped_byte b) (encode_byte ESCAPED b)) (λ b. true) 256 b bytes-agree small)

escape-of_bytes : (xs : List ℕ) → list_all (λ b. ltb b 256) xs ≡ true → escape xs ≡ percent_encode ESCAPED xs
unfolding percent_encode
escape-of_bytes [] h = refl
escape-of_bytes (b ∷ xs) h =
    let parts = and_parts (ltb b 256) (list_all (λ x. ltb x 256) xs) h in
    ap (λ front. front ++ escape xs) (escaped_byte-encoded b (ltb-true b 256 parts.0))
    ∙ ap (λ rest. encode_byte ESCAPED b ++ rest) (escape-of_bytes xs parts.1)

pub escape-encoded : (id : List ℕ) → IsUtf8 id → escape id ≡ percent_encode ESCAPED id
escape-encoded id utf8 = escape-of_bytes id (utf8-bytes id utf8)

-- decoding gives the id of which a text is the escape
pub escape-decoded : (text id : List ℕ) → IsEscapeOf text id → percent_decode text ≡ id
escape-decoded text id (some, utf8, same) =
    ap percent_decode (same ∙ escape-encoded id utf8) ∙ round_trip ESCAPED id refl (all-bytes id (utf8-bytes id utf8))

-- so a text that decodes to no text, or to one that isn't encoded so, is the escape of no id
pub no_text-no_escape : (text : List ℕ) → ¬ IsUtf8 (percent_decode text) → IsNoEscape text
no_text-no_escape text no_text id of_id = no_text (subst IsUtf8 (sym (escape-decoded text id of_id)) of_id.1)

pub other-no_escape : (text decoded encoded : List ℕ) → decoded ≡ percent_decode text
    → encoded ≡ percent_encode ESCAPED decoded → (encoded ≡ text → ⊥) → IsNoEscape text
other-no_escape text decoded encoded is of_it other id of_id =
    other (of_it ∙ ap (percent_encode ESCAPED) (is ∙ escape-decoded text id of_id) ∙ sym (escape-encoded id of_id.1) ∙ sym of_id.2)

pub empty-no_escape : (text : List ℕ) → text ≡ [] → IsNoEscape text
unfolding percent_decode
empty-no_escape text empty id of_id = of_id.0 (sym (escape-decoded text id of_id) ∙ ap percent_decode empty)

-- and a text that is encoded so is the escape of what it decodes to
pub encoded-unescapes : (text id encoded old new : List ℕ) → eqb (length text) 0 ≡ false → IsUtf8 id
    → encoded ≡ percent_encode ESCAPED id → encoded ≡ text → new ≡ old ++ id → Unescapes text old new
encoded-unescapes text id encoded old new given utf8 of_it same appended =
    let escaped = sym same ∙ of_it in record {
      id = id;
      escaped = (
        λ none. eqb-false (length text) 0 given (ap length (escaped ∙ ap (percent_encode ESCAPED) none ∙ percent_encode-nil ESCAPED)),
        utf8,
        escaped ∙ sym (escape-encoded id utf8),
      );
      appended = appended;
    }

-- what the tests say
pub differ_from_test : (xs ys : List ℕ) (test : Bool) → test ≡ not (bytes_eq xs ys) → test ≡ true → xs ≡ ys → ⊥
differ_from_test xs ys test of_it holds same = let equal = (bytes_decides xs ys).1 same in cc

pub same_from_test : (xs ys : List ℕ) (test : Bool) → test ≡ not (bytes_eq xs ys) → test ≡ false → xs ≡ ys
same_from_test xs ys test of_it fails = elim (cases_Bool (bytes_eq xs ys)) [
  | inl equal ↦ (bytes_decides xs ys).0 equal
  | inr other ↦ cc (ap not other)
]

pub empty_from_test : (xs : List ℕ) → eqb (length xs) 0 ≡ true → xs ≡ []
empty_from_test xs h = nil_from_length xs (eqb-true (length xs) 0 h)

pub escapes_are_of_one_id : EscapesAreOfOneId
escapes_are_of_one_id text id other of_id of_other = sym (escape-decoded text id of_id) ∙ escape-decoded text other of_other

pub escapes_are_read_back : EscapesAreReadBack
escapes_are_read_back id old new some utf8 =
    (λ none. none id (some, utf8, refl), λ h. h.appended ∙ ap (λ xs. old ++ xs) (escapes_are_of_one_id (escape id) h.id id h.escaped (some, utf8, refl)))
