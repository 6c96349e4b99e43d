-- What a scan of a text gives, by the grammar of JSON (RFC 8259).
use Rattle.std.specs.Prelude.{◌≡◌, ℕ, ◌≤◌, Bool, true, false, if◌then◌else◌, List, [], ◌∷◌, Option, None, Some, get_or, map}
use Rattle.std.specs.Str.{bytes_eq}
use Rattle.feed_meaning.specs.Locations.{Json, Scan, syntax_fault, depth_fault, scanned}
use Rattle.json_text.specs.Grammar.{depth, text_bytes}
use Rattle.json_text.specs.Node.{MemberNode, Node, array_items, number_text, object_members, text_nodes}
use Rattle.json_text.specs.StringText.{string_text}
use Rattle.json_text.specs.Refusal.{IsSyntaxFault, IsTooDeep, greatest_depth}
use Rattle.json_text.specs.Syntax.{Text, Value, literal, null_literal, number, string, array, object}

abbrev pub is_object_value : Value → Bool
is_object_value (object between) = true
is_object_value (literal word) = false
is_object_value (number n) = false
is_object_value (string marks) = false
is_object_value (array between) = false

abbrev pub is_array_value : Value → Bool
is_array_value (array between) = true
is_array_value (literal word) = false
is_array_value (number n) = false
is_array_value (string marks) = false
is_array_value (object between) = false

abbrev pub is_string_value : Value → Bool
is_string_value (string marks) = true
is_string_value (literal word) = false
is_string_value (number n) = false
is_string_value (array between) = false
is_string_value (object between) = false

abbrev pub is_number_value : Value → Bool
is_number_value (number n) = true
is_number_value (literal word) = false
is_number_value (string marks) = false
is_number_value (array between) = false
is_number_value (object between) = false

-- the value of the first member with the name
abbrev pub first_named : List MemberNode → List ℕ → Option ℕ
first_named [] name = None
first_named (member ∷ more) name =
    if bytes_eq member.name name then Some member.number else first_named more name

-- the same of the value that has the number and the place; only an object has members
abbrev pub value_member : Value → ℕ → ℕ → List ℕ → Option ℕ
value_member (object between) node place name = first_named (object_members between node place) name
value_member (literal word) node place name = None
value_member (number n) node place name = None
value_member (string marks) node place name = None
value_member (array between) node place name = None

-- its items; only an array has any
abbrev pub value_items : Value → ℕ → ℕ → List ℕ
value_items (array between) node place = map (λ item. item.number) (array_items between node place)
value_items (literal word) node place = []
value_items (number n) node place = []
value_items (string marks) node place = []
value_items (object between) node place = []

-- a string's text with its escapes read
abbrev pub value_text : Value → List ℕ
value_text (string marks) = string_text marks
value_text (literal word) = []
value_text (number n) = []
value_text (array between) = []
value_text (object between) = []

-- a number's own characters
abbrev pub value_digits : Value → List ℕ
value_digits (number n) = number_text n
value_digits (literal word) = []
value_digits (string marks) = []
value_digits (array between) = []
value_digits (object between) = []

-- the node that has the number, if there are as many
abbrev pub node_at : Text → ℕ → Node
node_at text node =
    get_or (text_nodes text) node (record { place = 0; value = literal null_literal })

-- A text's values by the numbers of their nodes, the first of which is the text's value.
abbrev pub json_of : Text → Json
json_of text = record {
  root = 0;
  place = λ node. (node_at text node).place;
  is_object = λ node. is_object_value (node_at text node).value;
  is_array = λ node. is_array_value (node_at text node).value;
  is_word = λ node. is_string_value (node_at text node).value;
  is_number = λ node. is_number_value (node_at text node).value;
  member = λ node name. value_member (node_at text node).value node (node_at text node).place name;
  items = λ node. value_items (node_at text node).value node (node_at text node).place;
  text = λ node. value_text (node_at text node).value;
  digits = λ node. value_digits (node_at text node).value;
}

-- The bytes are a JSON text that isn't too deep, and these are its values.
pub record IsJsonOf (bytes : List ℕ) (json : Json) : Type 0 where
  pub tree : Text
  pub spelled : text_bytes tree ≡ bytes
  pub flat : depth tree.value ≤ greatest_depth
  pub values : json ≡ json_of tree

-- The scan of the bytes gives this: the place of the fault that they have, or their values.
abbrev pub IsScanOf : List ℕ → Scan → Type 0
IsScanOf bytes (syntax_fault at) = IsSyntaxFault bytes at
IsScanOf bytes (depth_fault at) = IsTooDeep bytes at
IsScanOf bytes (scanned json) = IsJsonOf bytes json
