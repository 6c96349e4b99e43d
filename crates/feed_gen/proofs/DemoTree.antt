-- The JSON tree of the demo's locations.geojson.
use Rattle.std.proofs.Common.{◌≡◌, ℕ, false, true, List, [], ◌∷◌, None, Some, refl}
use Rattle.std.specs.Prelude.{codes}
use Rattle.std.specs.List.{list_all}
use Rattle.json_text.specs.Byte.{is_digit, is_first_digit, is_plain}
use Rattle.json_text.specs.Grammar.{text_bytes}
use Rattle.json_text.specs.Syntax.{line_feed, Digit, Mark, plain, Value, number, string, array, object, positive, items, last_item, next_item, no_members, members, last_member, next_member, Text}
use Rattle.feed_gen.specs.FeedTexts.{locations_text}
use Rattle.feed_gen.proofs.PlainFields.{and-left, and-right}

-- a string of plain characters
abbrev marks : (text : List ℕ) → list_all is_plain text ≡ true → List Mark
marks [] e = []
marks (b ∷ rest) e = plain b (and-left (is_plain b) (list_all is_plain rest) e) ∷ marks rest (and-right (is_plain b) (list_all is_plain rest) e)

abbrev digits : (text : List ℕ) → list_all is_digit text ≡ true → List Digit
digits [] e = []
digits (b ∷ rest) e =
    (record { byte = b; digit = and-left (is_digit b) (list_all is_digit rest) e })
    ∷ digits rest (and-right (is_digit b) (list_all is_digit rest) e)

-- a number with digits after its point
abbrev decimal_number : (first : ℕ) → is_first_digit first ≡ true → (more : List ℕ) → list_all is_digit more ≡ true
    → (tenth : ℕ) → is_digit tenth ≡ true → (others : List ℕ) → list_all is_digit others ≡ true → Value
decimal_number first is_first more are_digits tenth is_tenth others are_others =
    number (record {
      negative = false;
      whole = positive (record { byte = first; digit = is_first }) (digits more are_digits);
      fraction = Some (record { first = record { byte = tenth; digit = is_tenth }; more = digits others are_others });
      exponent = None;
    })

-- longitudes of one digit before the point, and latitudes of two
abbrev longitude : (first : ℕ) → is_first_digit first ≡ true → (tenth : ℕ) → is_digit tenth ≡ true → (others : List ℕ) → list_all is_digit others ≡ true → Value
longitude first is_first tenth is_tenth others are_others = decimal_number first is_first [] refl tenth is_tenth others are_others

abbrev position : Value → Value → Value
position lon lat = array (items [] lon [] (next_item [] lat [] last_item))

-- a closed rectangle between west and east, south and north
abbrev rectangle : Value → Value → Value → Value → Value
rectangle west east south north =
    array (items [] (position west south) []
    (next_item [] (position east south) []
    (next_item [] (position east north) []
    (next_item [] (position west north) []
    (next_item [] (position west south) [] last_item)))))

abbrev feature : List Mark → Value → Value
feature name ring =
    object (members [] (marks (codes "type") refl) [] [] (string (marks (codes "Feature") refl)) []
    (next_member [] (marks (codes "id") refl) [] [] (string name) []
    (next_member [] (marks (codes "properties") refl) [] [] (object (no_members [])) []
    (next_member [] (marks (codes "geometry") refl) [] []
    (object (members [] (marks (codes "type") refl) [] [] (string (marks (codes "Polygon") refl)) []
    (next_member [] (marks (codes "coordinates") refl) [] [] (array (items [] ring [] last_item)) [] last_member)))
    [] last_member))))

abbrev first_zone : Value
first_zone =
    feature (marks (codes "zA") refl)
    (rectangle (longitude 52 refl 57 refl (codes "95") refl) (longitude 53 refl 48 refl (codes "35") refl)
    (decimal_number 52 refl (codes "9") refl 57 refl (codes "95") refl) (decimal_number 53 refl (codes "0") refl 48 refl (codes "25") refl))

abbrev second_zone : Value
second_zone =
    feature (marks (codes "zB") refl)
    (rectangle (longitude 53 refl 48 refl (codes "25") refl) (longitude 53 refl 48 refl (codes "75") refl)
    (decimal_number 53 refl (codes "0") refl 48 refl (codes "15") refl) (decimal_number 53 refl (codes "0") refl 48 refl (codes "45") refl))

abbrev pub demo_tree : Text
demo_tree = record {
  before = [];
  value =
      object (members [] (marks (codes "type") refl) [] [] (string (marks (codes "FeatureCollection") refl)) []
      (next_member [] (marks (codes "features") refl) [] []
      (array (items (line_feed ∷ []) first_zone [] (next_item (line_feed ∷ []) second_zone (line_feed ∷ []) last_item)))
      [] last_member));
  after = line_feed ∷ [];
}

pub demo_tree-spelled : text_bytes demo_tree ≡ locations_text
unfolding locations_text
demo_tree-spelled = refl
