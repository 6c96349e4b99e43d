-- What a node's kind tells, and which nodes an array's items and an object's members are: for callers.
use Rattle.std.proofs.Common.{◌≡◌, ℕ, List, [], ◌∷◌, Some, inl, inr, Bool, true, false, arith}
use Rattle.json_text.specs.Grammar.{IsJsonWithin}
use Rattle.json_text.specs.Node.{Node, MemberNode, IsNode, HasNode, HasArray, HasNumber, HasObject, HasString, AreNodes, IsFirstNamed, kind_of, member_values, object_members}
use Rattle.json_text.specs.Syntax.{null_literal, true_literal, false_literal, Value, literal, number, string, array, object, Members}
use Rattle.json_text.specs.declared.kind.JsonKind.{JsonKind}
use Rattle.json_text.specs.declared.kind.JsonKind.TheVariants as Kind
use Rattle.json_text.proofs.Children.{members_are_nodes}
use Rattle.json_text.proofs.Content.{root_node}
use mathlib.Core.Path.{subst, ap, sym, ◌∙◌}

abbrev is_string : JsonKind → Bool
is_string Kind.String = true
is_string _ = false

abbrev is_number : JsonKind → Bool
is_number Kind.Number = true
is_number _ = false

abbrev is_array : JsonKind → Bool
is_array Kind.Array = true
is_array _ = false

abbrev is_object : JsonKind → Bool
is_object Kind.Object = true
is_object _ = false

wrong : {A : Type 0} → false ≡ true → A
wrong e = absurd (grind (arith, e))

string_by : (bytes : List ℕ) (k place : ℕ) (value : Value) → IsNode bytes k (record { place = place; value = value }) → is_string (kind_of value) ≡ true → HasString bytes k
string_by bytes k place (string marks) is e = (place, marks, is)
string_by bytes k place (literal null_literal) is e = wrong e
string_by bytes k place (literal true_literal) is e = wrong e
string_by bytes k place (literal false_literal) is e = wrong e
string_by bytes k place (number n) is e = wrong e
string_by bytes k place (array between) is e = wrong e
string_by bytes k place (object between) is e = wrong e

number_by : (bytes : List ℕ) (k place : ℕ) (value : Value) → IsNode bytes k (record { place = place; value = value }) → is_number (kind_of value) ≡ true → HasNumber bytes k
number_by bytes k place (number n) is e = (place, n, is)
number_by bytes k place (literal null_literal) is e = wrong e
number_by bytes k place (literal true_literal) is e = wrong e
number_by bytes k place (literal false_literal) is e = wrong e
number_by bytes k place (string marks) is e = wrong e
number_by bytes k place (array between) is e = wrong e
number_by bytes k place (object between) is e = wrong e

array_by : (bytes : List ℕ) (k place : ℕ) (value : Value) → IsNode bytes k (record { place = place; value = value }) → is_array (kind_of value) ≡ true → HasArray bytes k
array_by bytes k place (array between) is e = (place, between, is)
array_by bytes k place (literal null_literal) is e = wrong e
array_by bytes k place (literal true_literal) is e = wrong e
array_by bytes k place (literal false_literal) is e = wrong e
array_by bytes k place (string marks) is e = wrong e
array_by bytes k place (number n) is e = wrong e
array_by bytes k place (object between) is e = wrong e

object_by : (bytes : List ℕ) (k place : ℕ) (value : Value) → IsNode bytes k (record { place = place; value = value }) → is_object (kind_of value) ≡ true → HasObject bytes k
object_by bytes k place (object between) is e = (place, between, is)
object_by bytes k place (literal null_literal) is e = wrong e
object_by bytes k place (literal true_literal) is e = wrong e
object_by bytes k place (literal false_literal) is e = wrong e
object_by bytes k place (string marks) is e = wrong e
object_by bytes k place (number n) is e = wrong e
object_by bytes k place (array between) is e = wrong e

-- `kind` answered so: the node is such a value.
pub has_string : (bytes : List ℕ) (k : ℕ) (kind : JsonKind) → HasNode bytes k → ((is : Node) → IsNode bytes k is → kind ≡ kind_of is.value) → kind ≡ Kind.String → HasString bytes k
has_string bytes k kind (node, is) f e = string_by bytes k node.place node.value is (ap is_string (sym (f node is) ∙ e))

pub has_number : (bytes : List ℕ) (k : ℕ) (kind : JsonKind) → HasNode bytes k → ((is : Node) → IsNode bytes k is → kind ≡ kind_of is.value) → kind ≡ Kind.Number → HasNumber bytes k
has_number bytes k kind (node, is) f e = number_by bytes k node.place node.value is (ap is_number (sym (f node is) ∙ e))

pub has_array : (bytes : List ℕ) (k : ℕ) (kind : JsonKind) → HasNode bytes k → ((is : Node) → IsNode bytes k is → kind ≡ kind_of is.value) → kind ≡ Kind.Array → HasArray bytes k
has_array bytes k kind (node, is) f e = array_by bytes k node.place node.value is (ap is_array (sym (f node is) ∙ e))

pub has_object : (bytes : List ℕ) (k : ℕ) (kind : JsonKind) → HasNode bytes k → ((is : Node) → IsNode bytes k is → kind ≡ kind_of is.value) → kind ≡ Kind.Object → HasObject bytes k
has_object bytes k kind (node, is) f e = object_by bytes k node.place node.value is (ap is_object (sym (f node is) ∙ e))

-- A scanned text has a root.
pub has_root : (levels : ℕ) (bytes : List ℕ) → IsJsonWithin levels bytes → HasNode bytes 0
has_root levels bytes json = (_, root_node bytes json.0 json.1)

named_node : (bytes name : List ℕ) (found : ℕ) (all : List MemberNode) → AreNodes bytes (member_values all) → IsFirstNamed all name (Some found) → HasNode bytes found
named_node bytes name found [] a f = absurd (grind (arith, f))
named_node bytes name found (member ∷ more) a (inl f) = (member.node, subst (λ n. IsNode bytes n member.node) (sym (some_same found member.number f.1)) a.0)
  where
    some_same : (x y : ℕ) → Some x ≡ Some y → x ≡ y
    some_same x y e = grind (arith, e)
named_node bytes name found (member ∷ more) a (inr f) = named_node bytes name found more a.1 f.1

-- What `member` found is a node.
pub found_node : (bytes name : List ℕ) (k place found : ℕ) (between : Members) → IsNode bytes k (record { place = place; value = object between })
    → IsFirstNamed (object_members between k place) name (Some found) → HasNode bytes found
found_node bytes name k place found between is f = named_node bytes name found (object_members between k place) (members_are_nodes bytes k place between is) f
