-- The escape of an id is read back, so no two ids have one escape.
use Rattle.std.proofs.Common.{◌≡◌, ℕ, ◌+◌, ◌*◌, ◌/◌, ◌%◌, ◌<◌, Bool, true, false, cond, eqb, ltb, List, [], ◌∷◌, ◌++◌, IsUtf8, refl, sym, ap, ◌∙◌, arith}
use Rattle.std.specs.List.{list_all}
use Rattle.std.proofs.lemmas.Bool.{and_parts, ltb-true}
use Rattle.std.proofs.lemmas.Bool.Decides.{nat_tests}
use Rattle.std.proofs.lemmas.List.Concat.{flat_map-cons}
use Rattle.field_text.specs.Grammars.{escape, escaped_byte, hex_digit, stands_for_itself}
use Rattle.field_text.proofs.EscapeLemmas.{escaped_byte-other, escaped_byte-plain, utf8-bytes}
use Rattle.query_io.specs.Lines.{hex_value, without_escapes}

-- a byte that is escaped is read from its two digits
hex_back : (n : ℕ) → n < 16 → hex_value (hex_digit n) ≡ n
hex_back n low = grind (arith, nat_tests)

plain_step : (b : ℕ) (t : List ℕ) → eqb b 37 ≡ false → without_escapes (b ∷ t) ≡ b ∷ without_escapes t
unfolding without_escapes
plain_step b [] h = refl
plain_step b (c ∷ []) h = refl
plain_step b (c ∷ d ∷ t) h = ap (λ (x : Bool). cond x ((16 * hex_value c + hex_value d) ∷ without_escapes t) (b ∷ without_escapes (c ∷ d ∷ t))) h

mark_step : (h l : ℕ) (t : List ℕ) → without_escapes (37 ∷ h ∷ l ∷ t) ≡ (16 * hex_value h + hex_value l) ∷ without_escapes t
unfolding without_escapes
mark_step h l t = refl

not_mark : (b : ℕ) → stands_for_itself b ≡ true → eqb b 37 ≡ false
not_mark b h = grind (arith, nat_tests)

escape_step : (b : ℕ) (id : List ℕ) → ltb b 256 ≡ true → without_escapes (escape id) ≡ id → (plain : Bool) → stands_for_itself b ≡ plain → without_escapes (escape (b ∷ id)) ≡ b ∷ id
escape_step b id bound later true is =
    ap without_escapes (flat_map-cons escaped_byte b id ∙ ap (λ (x : List ℕ). x ++ escape id) (escaped_byte-plain b is))
    ∙ plain_step b (escape id) (not_mark b is) ∙ ap (λ (x : List ℕ). b ∷ x) later
escape_step b id bound later false is =
    let small = ltb-true b 256 bound in
    let high : hex_value (hex_digit (b / 16)) ≡ b / 16 = hex_back (b / 16) (omega (arith, small)) in
    let low : hex_value (hex_digit (b % 16)) ≡ b % 16 = hex_back (b % 16) (omega arith) in
    let byte_is : 16 * hex_value (hex_digit (b / 16)) + hex_value (hex_digit (b % 16)) ≡ b = rw (high, low) (omega arith) in
    ap without_escapes (flat_map-cons escaped_byte b id ∙ ap (λ (x : List ℕ). x ++ escape id) (escaped_byte-other b is))
    ∙ mark_step (hex_digit (b / 16)) (hex_digit (b % 16)) (escape id) ∙ ap (λ (x : List ℕ). (16 * hex_value (hex_digit (b / 16)) + hex_value (hex_digit (b % 16))) ∷ x) later
    ∙ ap (λ (x : ℕ). x ∷ id) byte_is

pub escapes_back : (id : List ℕ) → list_all (λ b. ltb b 256) id ≡ true → without_escapes (escape id) ≡ id
unfolding without_escapes
escapes_back [] bytes = refl
escapes_back (b ∷ id) bytes =
    let parts = and_parts (ltb b 256) (list_all (λ b. ltb b 256) id) bytes in
    escape_step b id parts.0 (escapes_back id parts.1) (stands_for_itself b) refl

pub escape_injective : (a b : List ℕ) → IsUtf8 a → IsUtf8 b → escape a ≡ escape b → a ≡ b
escape_injective a b utf8 utf8' e =
    sym (escapes_back a (utf8-bytes a utf8)) ∙ ap without_escapes e ∙ escapes_back b (utf8-bytes b utf8')
