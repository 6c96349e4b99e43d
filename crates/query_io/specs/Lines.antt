-- How the words of printed lines are read. A word that is no printed text of its kind has no value.
use Rattle.std.specs.Prelude.{ℕ, Bool, ◌*◌, ◌+◌, ◌-◌, ◌==◌, nat_lt, ◌&&◌, if◌then◌else◌}
use Rattle.std.specs.Prelude.{List, [], ◌∷◌, length, Option, Some, None, codes, position, slice_index}
use Rattle.std.specs.Option.{option_map}
use Rattle.std.specs.Str.{byte, bytes_eq, is_utf8}
use Rattle.field_text.specs.Grammars.{count, escape, moment, some_if}
use Rattle.flex_model.specs.declared.feed.Feed.{Feed}
use Rattle.flex_model.specs.declared.moment.Deadline.{Deadline}
use Rattle.flex_model.specs.declared.moment.Deadline.TheVariants.{At, Never}
use Rattle.flex_model.specs.declared.place.Place.{Place}
use Rattle.flex_model.specs.declared.place.Place.TheVariants.{Stop, Point}
use Rattle.flex_model.specs.declared.times.Times.{Times}

-- whether a text begins with a zero and goes on
abbrev pub has_leading_zero : List ℕ → Bool
has_leading_zero text = nat_lt 1 (length text) && (slice_index text 0 == byte "0")

-- a number as it is printed: digits without leading zeros
abbrev pub number_in : ℕ → List ℕ → Option ℕ
number_in greatest text = if has_leading_zero text then None else count greatest text

-- a moment of the years 1980 to 2209, or never
abbrev pub deadline_in : List ℕ → Option Deadline
deadline_in text =
    if bytes_eq text (codes "never") then Some Never else option_map At (moment 1980 2209 text)

-- the value, or the other one where there is none
abbrev pub or_else : {X : Type 0} → Option X → Option X → Option X
or_else (Some x) other = Some x
or_else None other = other

-- the stop or the point of this escaped id
abbrev pub place_in : Feed → Times → List ℕ → Option Place
place_in feed times text =
    or_else (option_map Stop (position (λ stop. bytes_eq text (escape stop.id)) feed.stops))
    (option_map Point (position (λ point. bytes_eq text (escape point.id)) times.points))

-- the trip of this escaped id
abbrev pub trip_in : Feed → List ℕ → Option ℕ
trip_in feed text = position (λ trip. bytes_eq text (escape trip.id)) feed.trips

-- the number that a hexadecimal digit with a capital letter stands for
abbrev pub hex_value : ℕ → ℕ
hex_value digit =
    if nat_lt digit (byte "A") then digit - byte "0" else digit - byte "A" + 10

-- the bytes of a text with each % and the two digits after it as one byte
unfoldable pub without_escapes : List ℕ → List ℕ
without_escapes [] = []
without_escapes (b ∷ []) = b ∷ []
without_escapes (b ∷ c ∷ []) = b ∷ without_escapes (c ∷ [])
without_escapes (b ∷ c ∷ d ∷ rest) =
    if b == byte "%" then (16 * hex_value c + hex_value d) ∷ without_escapes rest
    else b ∷ without_escapes (c ∷ d ∷ rest)

-- the id whose escape a text is: any text but the empty one
abbrev pub id_in : List ℕ → Option (List ℕ)
id_in text =
    let id = without_escapes text in
    some_if (nat_lt 0 (length id) && is_utf8 id && bytes_eq text (escape id)) id
