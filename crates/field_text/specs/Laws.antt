-- Laws of the grammars and the printed texts.
use Rattle.std.specs.Prelude.{◌≡◌, ◌≢◌, ◌++◌, ◌^◌, ◌<◌, ◌≤◌, ℕ, ℤ, List, [], Some, IsUtf8, decimal}
use Rattle.field_text.specs.Escapes.{IsNoEscape, Unescapes}
use Rattle.field_text.specs.Grammars.{IsEscapeOf, count, date, escape, moment}
use Rattle.field_text.specs.Texts.{IsPrintableDay, IsPrintableMoment, date_text, moment_text}

-- A printed day is read back.
abbrev pub DatesAreReadBack : Type 0
DatesAreReadBack = (day : ℤ) → IsPrintableDay day → date (date_text day) ≡ Some day

-- A day has one spelling: a text that is read as a day is what is printed of it.
abbrev pub DatesHaveOneSpelling : Type 0
DatesHaveOneSpelling = (text : List ℕ) (day : ℤ) → date text ≡ Some day
    → IsPrintableDay day × (text ≡ date_text day)

-- A printed moment is read back.
abbrev pub MomentsAreReadBack : Type 0
MomentsAreReadBack = (m : ℤ) → IsPrintableMoment m → moment 1980 2209 (moment_text m) ≡ Some m

-- A moment has one spelling: a text that is read as a moment is what is printed of it.
abbrev pub MomentsHaveOneSpelling : Type 0
MomentsHaveOneSpelling = (text : List ℕ) (m : ℤ) → moment 1980 2209 text ≡ Some m
    → IsPrintableMoment m × (text ≡ moment_text m)

-- A printed number is read back as a count.
abbrev pub NumbersAreReadBack : Type 0
NumbersAreReadBack = (n greatest : ℕ) → n ≤ greatest → n < 2 ^ 64
    → count greatest (decimal n) ≡ Some n

-- No two ids have one escape.
abbrev pub EscapesAreOfOneId : Type 0
EscapesAreOfOneId = (text id other : List ℕ) → IsEscapeOf text id → IsEscapeOf text other
    → id ≡ other

-- The escape of an id is unescaped as that id: it is no bad escape, and nothing else is put at the
-- end of the old text.
abbrev pub EscapesAreReadBack : Type 0
EscapesAreReadBack = (id old new : List ℕ) → id ≢ [] → IsUtf8 id
    → ¬ (IsNoEscape (escape id)) × (Unescapes (escape id) old new → new ≡ old ++ id)
