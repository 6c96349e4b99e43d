-- What a step of the walk over a text's values answers.
use Rattle.std.specs.Prelude.{◌≡◌, ◌&&◌, ℕ, Bool, List, [], ◌∷◌, None, Some, Result, Ok, Err}
use Rattle.std.specs.Option.{option_map_or}
use Rattle.std.specs.Str.{bytes_eq}
use Rattle.feed_meaning.specs.Locations.{Check, Json, check}
use Rattle.flex_model.specs.declared.fault.FaultCode.TheVariants.{GeoShape}
use Rattle.geo_json.specs.declared.refusal.WalkRefusal.{WalkRefusal}
use Rattle.geo_json.specs.declared.refusal.WalkRefusal.TheVariants.{Fault, NoMemory}

-- the first fault that checks find
abbrev pub first_fault : List Check → Check
first_fault [] = None
first_fault (None ∷ more) = first_fault more
first_fault (Some found ∷ more) = Some found

-- The fault is the first that the checks find. Want of memory is always allowed.
abbrev pub Refuses : List Check → WalkRefusal → Type 0
Refuses checks (Fault code place) = first_fault checks ≡ Some (place, code)
Refuses checks NoMemory = Unit {0}

-- A value comes where the checks find nothing, and otherwise what they find first.
abbrev pub TellsFirst : {T : Type 0} → List Check → Result T WalkRefusal → Type 0
TellsFirst checks (Ok value) = first_fault checks ≡ None
TellsFirst checks (Err refusal) = Refuses checks refusal

-- the value is a string of this text
abbrev pub has_text : Json → List ℕ → ℕ → Bool
has_text json wanted node = json.is_word node && bytes_eq (json.text node) wanted

-- the value of the member with the name passes; where there is none the object itself is at fault
abbrev pub check_named : Json → ℕ → List ℕ → (ℕ → Bool) → Check
check_named json object name test =
    option_map_or (λ value. check (test value) (json.place value) GeoShape)
    (json.member object name) (Some (json.place object, GeoShape))
