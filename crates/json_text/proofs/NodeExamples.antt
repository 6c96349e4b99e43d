-- The nodes of short texts.
use Rattle.std.proofs.Common.{◌≡◌, ◌≢◌, ◌⊎◌, inl, inr, ℕ, suc, false, List, [], ◌∷◌, Some, None, refl, arith}
use Rattle.json_text.specs.Grammar.{text_bytes}
use Rattle.json_text.specs.Node.{text_nodes, object_members, IsFirstNamed}
use Rattle.json_text.specs.StringText.{string_text}
use Rattle.json_text.specs.Syntax.{HexDigit, positive, plain, unit, Value, number, object, Members, members, next_member, last_member, Text}

abbrev hex : (b : ℕ) → Rattle.json_text.specs.Byte.is_hex_digit b ≡ Rattle.std.proofs.Common.true → HexDigit
hex b e = record { byte = b; digit = e }

-- \ud800 is half a pair, and is read as U+FFFD
half_pair : string_text (unit (hex 100 refl) (hex 56 refl) (hex 48 refl) (hex 48 refl) ∷ []) ≡ 239 ∷ 191 ∷ 189 ∷ []
unfolding lib.Utf8.encode
half_pair = refl

-- \ud83d\ude00 is U+1F600
whole_pair : string_text (unit (hex 100 refl) (hex 56 refl) (hex 51 refl) (hex 100 refl) ∷ unit (hex 100 refl) (hex 101 refl) (hex 48 refl) (hex 48 refl) ∷ [])
    ≡ 240 ∷ 159 ∷ 152 ∷ 128 ∷ []
unfolding lib.Utf8.encode
whole_pair = refl

abbrev whole_number : (b : ℕ) → Rattle.json_text.specs.Byte.is_first_digit b ≡ Rattle.std.proofs.Common.true → Value
whole_number b e = number (record { negative = false; whole = positive (record { byte = b; digit = e }) []; fraction = None; exponent = None })

abbrev twice : Members
twice = members [] (plain 97 refl ∷ []) [] [] (whole_number 49 refl) [] (next_member [] (plain 97 refl ∷ []) [] [] (whole_number 50 refl) [] last_member)

-- {"a":1,"a":2}
abbrev twice_text : Text
twice_text = record { before = []; value = object twice; after = [] }

twice_bytes : text_bytes twice_text ≡ 123 ∷ 34 ∷ 97 ∷ 34 ∷ 58 ∷ 49 ∷ 44 ∷ 34 ∷ 97 ∷ 34 ∷ 58 ∷ 50 ∷ 125 ∷ []
twice_bytes = refl

twice_nodes : text_nodes twice_text ≡ record { place = 0; value = object twice } ∷ record { place = 5; value = whole_number 49 refl } ∷ record { place = 11; value = whole_number 50 refl } ∷ []
twice_nodes = refl

first_named : IsFirstNamed (object_members twice 0 0) (97 ∷ []) (Some 1)
first_named = inl (refl, refl)

none_named : IsFirstNamed (object_members twice 0 0) (98 ∷ []) None
none_named = inr (other, inr (other, refl))
  where
    other : ◌≡◌ {A = List ℕ} (97 ∷ []) (98 ∷ []) → ⊥
    other e = grind (arith, e)
