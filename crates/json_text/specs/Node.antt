-- The values of a text in the order in which they begin, which is the order of their nodes.
use Rattle.std.specs.Prelude.{◌≡◌, ℕ, suc, ◌+◌, List, [], ◌∷◌, ◌++◌, length, ◌≢◌, ◌⊎◌, Option, Some, None, slice_get}
use Rattle.json_text.specs.Syntax.{White, Number, Mark, null_literal, true_literal, false_literal, Value, literal, number, string, array, object, Items, no_items, items, MoreItems, last_item, next_item, Members, no_members, members, MoreMembers, last_member, next_member, Text}
use Rattle.json_text.specs.Grammar.{mark_bytes, value_bytes, number_bytes, text_bytes}
use Rattle.json_text.specs.StringText.{string_text}
use Rattle.json_text.specs.declared.kind.JsonKind.{JsonKind}
use Rattle.json_text.specs.declared.kind.JsonKind.TheVariants as Kind

-- a value, and the offset of its first byte
pub record Node : Type 0 where
  pub place : ℕ
  pub value : Value

abbrev pub value_length : Value → ℕ
value_length value = length (value_bytes value [])

-- of a name, with its quotation marks
abbrev pub name_length : List Mark → ℕ
name_length name = suc (length (mark_bytes name []))

-- the place of a member's value, whose name begins at the place
abbrev pub value_place : ℕ → List Mark → List White → List White → ℕ
value_place place name after_name before_value =
    place + name_length name + length after_name + 1 + length before_value

-- the place behind a value that begins at the place, and behind its white space
abbrev pub place_behind : ℕ → Value → List White → ℕ
place_behind place value after = place + value_length value + length after

-- The nodes of a value that begins at the place: itself, and then those within it.
abbrev mutual
  pub value_nodes : Value → ℕ → List Node
  value_nodes (literal word) place = record { place = place; value = literal word } ∷ []
  value_nodes (number n) place = record { place = place; value = number n } ∷ []
  value_nodes (string marks) place = record { place = place; value = string marks } ∷ []
  value_nodes (array between) place =
      record { place = place; value = array between } ∷ items_nodes between (suc place)
  value_nodes (object between) place =
      record { place = place; value = object between } ∷ members_nodes between (suc place)

  pub items_nodes : Items → ℕ → List Node
  items_nodes (no_items whites) place = []
  items_nodes (items before value after more) place =
      value_nodes value (place + length before)
      ++ more_items_nodes more (place_behind (place + length before) value after)

  pub more_items_nodes : MoreItems → ℕ → List Node
  more_items_nodes last_item place = []
  more_items_nodes (next_item before value after more) place =
      value_nodes value (suc place + length before)
      ++ more_items_nodes more (place_behind (suc place + length before) value after)

  pub members_nodes : Members → ℕ → List Node
  members_nodes (no_members whites) place = []
  members_nodes (members before name after_name before_value value after more) place =
      let start = value_place (place + length before) name after_name before_value in
      value_nodes value start ++ more_members_nodes more (place_behind start value after)

  pub more_members_nodes : MoreMembers → ℕ → List Node
  more_members_nodes last_member place = []
  more_members_nodes (next_member before name after_name before_value value after more) place =
      let start = value_place (suc place + length before) name after_name before_value in
      value_nodes value start ++ more_members_nodes more (place_behind start value after)

abbrev pub kind_of : Value → JsonKind
kind_of (literal null_literal) = Kind.Null
kind_of (literal true_literal) = Kind.True
kind_of (literal false_literal) = Kind.False
kind_of (number n) = Kind.Number
kind_of (string marks) = Kind.String
kind_of (array between) = Kind.Array
kind_of (object between) = Kind.Object

abbrev pub text_nodes : Text → List Node
text_nodes text = value_nodes text.value (length text.before)

-- how many nodes a value has, itself among them
abbrev pub node_count : Value → ℕ
node_count value = length (value_nodes value 0)

-- a node and its number
pub record NumberedNode : Type 0 where
  pub number : ℕ
  pub node : Node

-- The items behind one, whose comma stands at the place, and the first of which has the number.
abbrev pub more_array_items : MoreItems → ℕ → ℕ → List NumberedNode
more_array_items last_item first place = []
more_array_items (next_item before value after more) first place =
    record { number = first; node = record { place = suc place + length before; value = value } }
    ∷ more_array_items more (first + node_count value)
    (place_behind (suc place + length before) value after)

-- The items of the array at the place that has the number.
abbrev pub array_items : Items → ℕ → ℕ → List NumberedNode
array_items (no_items whites) node place = []
array_items (items before value after more) node place =
    record { number = suc node; node = record { place = suc place + length before; value = value } }
    ∷ more_array_items more (suc node + node_count value)
    (place_behind (suc place + length before) value after)

-- a member: its name after escapes are read, and its value with its number
pub record MemberNode : Type 0 where
  pub name : List ℕ
  pub number : ℕ
  pub node : Node

-- the member whose value has the number and stands at the place
abbrev pub a_member : List Mark → ℕ → ℕ → Value → MemberNode
a_member name node place value = record {
  name = string_text name;
  number = node;
  node = record { place = place; value = value };
}

-- The members behind one, whose comma stands at the place, and the first of which has the number.
abbrev pub more_object_members : MoreMembers → ℕ → ℕ → List MemberNode
more_object_members last_member first place = []
more_object_members (next_member before name after_name before_value value after more) first place =
    let start = value_place (suc place + length before) name after_name before_value in
    a_member name first start value
    ∷ more_object_members more (first + node_count value) (place_behind start value after)

-- The members of the object at the place that has the number.
abbrev pub object_members : Members → ℕ → ℕ → List MemberNode
object_members (no_members whites) node place = []
object_members (members before name after_name before_value value after more) node place =
    let start = value_place (suc place + length before) name after_name before_value in
    a_member name (suc node) start value
    ∷ more_object_members more (suc node + node_count value) (place_behind start value after)

-- The node is the value of the first member with the name, or there is none.
abbrev pub IsFirstNamed : List MemberNode → List ℕ → Option ℕ → Type 0
IsFirstNamed [] name found = found ≡ None
IsFirstNamed (member ∷ more) name found =
    ((member.name ≡ name) × (found ≡ Some member.number))
    ⊎ ((member.name ≢ name) × IsFirstNamed more name found)

-- a number's own characters
abbrev pub number_text : Number → List ℕ
number_text n = number_bytes n []

-- The bytes are a JSON text in which the node has the number.
abbrev pub IsNode : List ℕ → ℕ → Node → Type 0
IsNode bytes node is =
    (text : Text) × (text_bytes text ≡ bytes) × (slice_get (text_nodes text) node ≡ Some is)

-- Some node of the text has the number.
abbrev pub HasNode : List ℕ → ℕ → Type 0
HasNode bytes node = (is : Node) × IsNode bytes node is

-- The node that has the number is an array, and likewise below.
abbrev pub HasArray : List ℕ → ℕ → Type 0
HasArray bytes node =
    (place : ℕ) × (between : Items)
    × IsNode bytes node (record { place = place; value = array between })

abbrev pub HasObject : List ℕ → ℕ → Type 0
HasObject bytes node =
    (place : ℕ) × (between : Members)
    × IsNode bytes node (record { place = place; value = object between })

abbrev pub HasString : List ℕ → ℕ → Type 0
HasString bytes node =
    (place : ℕ) × (marks : List Mark)
    × IsNode bytes node (record { place = place; value = string marks })

abbrev pub HasNumber : List ℕ → ℕ → Type 0
HasNumber bytes node =
    (place : ℕ) × (n : Number) × IsNode bytes node (record { place = place; value = number n })

-- Each of them is a node of the text.
abbrev pub AreNodes : List ℕ → List NumberedNode → Type 0
AreNodes bytes [] = Unit {0}
AreNodes bytes (numbered ∷ more) = IsNode bytes numbered.number numbered.node × AreNodes bytes more

abbrev pub member_values : List MemberNode → List NumberedNode
member_values [] = []
member_values (member ∷ more) =
    record { number = member.number; node = member.node } ∷ member_values more

-- The items of an array are nodes.
abbrev pub ItemsAreNodes : Type 0
ItemsAreNodes = (bytes : List ℕ) (node place : ℕ) (between : Items)
    → IsNode bytes node (record { place = place; value = array between })
    → AreNodes bytes (array_items between node place)

-- The values of an object's members are nodes.
abbrev pub MembersAreNodes : Type 0
MembersAreNodes = (bytes : List ℕ) (node place : ℕ) (between : Members)
    → IsNode bytes node (record { place = place; value = object between })
    → AreNodes bytes (member_values (object_members between node place))
