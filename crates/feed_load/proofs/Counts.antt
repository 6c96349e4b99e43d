-- The numbers of fields that fit 32 bits.
use Rattle.std.proofs.Common.{◌≡◌, ℕ, ◌≤◌, Bool, true, false, ◌&&◌, List, [], ◌∷◌, Option, None, Some, refl, sym, arith}
use Rattle.std.specs.Prelude.{is_none, nat_le, unwrap_or}
use Rattle.std.proofs.lemmas.Bool.{false≢true, le-leb, leb-true}
use Rattle.feed_tables.specs.Refusals.{is_given}
use Rattle.field_text.specs.Grammars.{count, has_digits, number, some_if}
use Rattle.feed_meaning.specs.Rules.{is_bad}
use Rattle.feed_meaning.proofs.FieldBounds.{count_is}
use Rattle.feed_load.specs.Columns.{number_within}

number-of : (text : List ℕ) (o : Option ℕ) → count 4294967295 text ≡ o → (is_given text && is_none o) ≡ false → unwrap_or o 0 ≡ number text
number-of [] None is kept = refl
number-of (b ∷ text) None is kept = absurd (false≢true (sym kept))
number-of text (Some n) is kept = sym (count_is 4294967295 text n is).1

-- a field that is empty or a count has its number
pub number_is : (text : List ℕ) → is_bad (count 4294967295) text ≡ false → number_within text ≡ number text
number_is text kept = number-of text (count 4294967295 text) refl kept

-- a value up to a bound is one up to a greater bound
wider-test : (digits low high : Bool) (n : ℕ) → (low ≡ true → high ≡ true) → is_none (some_if (digits && low) n) ≡ false → is_none (some_if (digits && high) n) ≡ false
wider-test false low high n up e = absurd (false≢true (sym e))
wider-test true false high n up e = absurd (false≢true (sym e))
wider-test true true true n up e = refl
wider-test true true false n up e = absurd (false≢true (up refl))

pub wider : (greatest : ℕ) (text : List ℕ) → greatest ≤ 4294967295 → is_bad (count greatest) text ≡ false → is_bad (count 4294967295) text ≡ false
wider greatest [] low kept = refl
wider greatest (b ∷ text) low kept =
    let n = number (b ∷ text) in
    wider-test (has_digits 1 20 (b ∷ text)) (nat_le n greatest) (nat_le n 4294967295) n
    (λ e. let h : n ≤ greatest = leb-true n greatest e in le-leb n 4294967295 (omega (arith, h, low))) kept
