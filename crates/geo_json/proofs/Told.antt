-- What a node of a text tells is what its value is in each tree of the text.
use Rattle.std.proofs.Common.{◌≡◌, ℕ, suc, List, [], ◌∷◌, Bool, true, false, Option, Some, inl, inr, refl, arith, length, map, slice_get}
use Rattle.std.proofs.lemmas.Option.{slice_get-get_or, get_or_from_slice_get, slice_get_within}
use Rattle.std.proofs.lemmas.Slice.Eq.{bytes_eq-Decides}
use Rattle.std.specs.Str.{bytes_eq}
use Rattle.feed_meaning.specs.Locations.{Json}
use Rattle.json_text.specs.Grammar.{IsJson, text_bytes}
use Rattle.json_text.specs.Node.{MemberNode, Node, HasArray, HasNode, HasNumber, HasObject, HasString, IsFirstNamed, IsNode, array_items, kind_of, number_text, object_members, text_nodes, value_nodes}
use Rattle.json_text.specs.StringText.{string_text}
use Rattle.json_text.specs.Syntax.{Items, Mark, Members, Number, Text, Value, literal, null_literal, number, string, array, object, true_literal, false_literal}
use Rattle.json_text.specs.declared.kind.JsonKind.{JsonKind}
use Rattle.json_text.specs.declared.kind.JsonKind.TheVariants as Kind
use Rattle.geo_json.specs.Scans.{IsJsonOf, first_named, is_array_value, is_number_value, is_object_value, is_string_value, node_at, value_digits, value_items, value_member, value_text}
use Rattle.geo_json.specs.There.{AreThere, IsThere, is_value}
use Rattle.json_text.proofs.Numbers.{RiseWithin, items_within, member_within}
use mathlib.Core.Path.{subst, ap, sym, ◌∙◌}

abbrev pub is_string_kind : JsonKind → Bool
is_string_kind Kind.String = true
is_string_kind _ = false

abbrev pub is_number_kind : JsonKind → Bool
is_number_kind Kind.Number = true
is_number_kind _ = false

abbrev pub is_array_kind : JsonKind → Bool
is_array_kind Kind.Array = true
is_array_kind _ = false

abbrev pub is_object_kind : JsonKind → Bool
is_object_kind Kind.Object = true
is_object_kind _ = false

pub string_kind : (value : Value) → is_string_value value ≡ is_string_kind (kind_of value)
string_kind (literal null_literal) = refl
string_kind (literal true_literal) = refl
string_kind (literal false_literal) = refl
string_kind (number n) = refl
string_kind (string marks) = refl
string_kind (array between) = refl
string_kind (object between) = refl

pub number_kind : (value : Value) → is_number_value value ≡ is_number_kind (kind_of value)
number_kind (literal null_literal) = refl
number_kind (literal true_literal) = refl
number_kind (literal false_literal) = refl
number_kind (number n) = refl
number_kind (string marks) = refl
number_kind (array between) = refl
number_kind (object between) = refl

pub array_kind : (value : Value) → is_array_value value ≡ is_array_kind (kind_of value)
array_kind (literal null_literal) = refl
array_kind (literal true_literal) = refl
array_kind (literal false_literal) = refl
array_kind (number n) = refl
array_kind (string marks) = refl
array_kind (array between) = refl
array_kind (object between) = refl

pub object_kind : (value : Value) → is_object_value value ≡ is_object_kind (kind_of value)
object_kind (literal null_literal) = refl
object_kind (literal true_literal) = refl
object_kind (literal false_literal) = refl
object_kind (number n) = refl
object_kind (string marks) = refl
object_kind (array between) = refl
object_kind (object between) = refl

wrong : {A : Type 0} → false ≡ true → A
wrong e = absurd (grind (arith, e))

module _ (bytes : List ℕ) (test : Value → Bool) (k : ℕ) (there : IsThere bytes test k) where
  -- Some tree has the node.
  pub has_node : HasNode bytes k
  has_node = let e = there.each there.json.0 there.json.1 in (e.0, (there.json.0, there.json.1, e.1))

  -- In each tree it is the node there.
  pub node_in : (tree : Text) → text_bytes tree ≡ bytes → slice_get (text_nodes tree) k ≡ Some (node_at tree k)
  node_in tree e =
      let found = there.each tree e in
      slice_get-get_or (text_nodes tree) k (record { place = 0; value = literal null_literal }) (slice_get_within (text_nodes tree) k found.0 found.1)

  pub is_node : (tree : Text) → text_bytes tree ≡ bytes → IsNode bytes k (node_at tree k)
  is_node tree e = (tree, e, node_in tree e)

  pub passes : (tree : Text) → text_bytes tree ≡ bytes → test (node_at tree k).value ≡ true
  passes tree e =
      let found = there.each tree e in
      subst (λ node. test node.value ≡ true) (sym (get_or_from_slice_get (text_nodes tree) k found.0 (record { place = 0; value = literal null_literal }) found.1)) found.2

  -- Where the kind passes another test, so does the value.
  pub narrowed : (other : Value → Bool) (of_kind : JsonKind → Bool) (kind : JsonKind) → ((value : Value) → other value ≡ of_kind (kind_of value))
      → ((is : Node) → IsNode bytes k is → kind ≡ kind_of is.value) → of_kind kind ≡ true → IsThere bytes other k
  narrowed other of_kind kind same f e = record {
    json = there.json;
    each = λ tree spelled. (node_at tree k, node_in tree spelled, same (node_at tree k).value ∙ ap of_kind (sym (f (node_at tree k) (is_node tree spelled))) ∙ e);
  }

  pub told : (other : Value → Bool) (of_kind : JsonKind → Bool) (kind : JsonKind) → ((value : Value) → other value ≡ of_kind (kind_of value))
      → ((is : Node) → IsNode bytes k is → kind ≡ kind_of is.value) → (tree : Text) → text_bytes tree ≡ bytes → of_kind kind ≡ other (node_at tree k).value
  told other of_kind kind same f tree spelled = ap of_kind (f (node_at tree k) (is_node tree spelled)) ∙ sym (same (node_at tree k).value)

as_array : (value : Value) → is_array_value value ≡ true → (between : Items) × (value ≡ array between)
as_array (array between) e = (between, refl)
as_array (literal word) e = wrong e
as_array (number n) e = wrong e
as_array (string marks) e = wrong e
as_array (object between) e = wrong e

as_object : (value : Value) → is_object_value value ≡ true → (between : Members) × (value ≡ object between)
as_object (object between) e = (between, refl)
as_object (literal word) e = wrong e
as_object (number n) e = wrong e
as_object (string marks) e = wrong e
as_object (array between) e = wrong e

as_string : (value : Value) → is_string_value value ≡ true → (marks : List Mark) × (value ≡ string marks)
as_string (string marks) e = (marks, refl)
as_string (literal word) e = wrong e
as_string (number n) e = wrong e
as_string (array between) e = wrong e
as_string (object between) e = wrong e

as_number : (value : Value) → is_number_value value ≡ true → (n : Number) × (value ≡ number n)
as_number (number n) e = (n, refl)
as_number (literal word) e = wrong e
as_number (string marks) e = wrong e
as_number (array between) e = wrong e
as_number (object between) e = wrong e

-- the node with a value that is known
with_value : (node : Node) (value : Value) → node.value ≡ value → node ≡ record { place = node.place; value = value }
with_value node value e = ap (λ v. record { place = node.place; value = v }) e

differs : (b : Bool) → (b ≡ true → ⊥) → b ≡ false
differs true n = absurd (n refl)
differs false n = refl

named : (all : List MemberNode) (name : List ℕ) (found : Option ℕ) → IsFirstNamed all name found → found ≡ first_named all name
named [] name found is = is
named (member ∷ more) name found (inl is) = let same = (bytes_eq-Decides member.name name).1 is.0 in rw same is.1
named (member ∷ more) name found (inr is) = let other = differs (bytes_eq member.name name) (λ t. is.0 ((bytes_eq-Decides member.name name).0 t)) in rw other (named more name found is.1)

module _ (bytes : List ℕ) (k : ℕ) where
  array_in : IsThere bytes is_array_value k → (tree : Text) → text_bytes tree ≡ bytes
      → (between : Items) × ((node_at tree k).value ≡ array between) × (slice_get (text_nodes tree) k ≡ Some (record { place = (node_at tree k).place; value = array between }))
  array_in there tree e =
      let is = as_array (node_at tree k).value (passes bytes is_array_value k there tree e) in
      (is.0, is.1, node_in bytes is_array_value k there tree e ∙ ap Some (with_value (node_at tree k) (array is.0) is.1))

  object_in : IsThere bytes is_object_value k → (tree : Text) → text_bytes tree ≡ bytes
      → (between : Members) × ((node_at tree k).value ≡ object between) × (slice_get (text_nodes tree) k ≡ Some (record { place = (node_at tree k).place; value = object between }))
  object_in there tree e =
      let is = as_object (node_at tree k).value (passes bytes is_object_value k there tree e) in
      (is.0, is.1, node_in bytes is_object_value k there tree e ∙ ap Some (with_value (node_at tree k) (object is.0) is.1))

  string_in : IsThere bytes is_string_value k → (tree : Text) → text_bytes tree ≡ bytes
      → (marks : List Mark) × ((node_at tree k).value ≡ string marks) × (slice_get (text_nodes tree) k ≡ Some (record { place = (node_at tree k).place; value = string marks }))
  string_in there tree e =
      let is = as_string (node_at tree k).value (passes bytes is_string_value k there tree e) in
      (is.0, is.1, node_in bytes is_string_value k there tree e ∙ ap Some (with_value (node_at tree k) (string is.0) is.1))

  number_in : IsThere bytes is_number_value k → (tree : Text) → text_bytes tree ≡ bytes
      → (n : Number) × ((node_at tree k).value ≡ number n) × (slice_get (text_nodes tree) k ≡ Some (record { place = (node_at tree k).place; value = number n }))
  number_in there tree e =
      let is = as_number (node_at tree k).value (passes bytes is_number_value k there tree e) in
      (is.0, is.1, node_in bytes is_number_value k there tree e ∙ ap Some (with_value (node_at tree k) (number is.0) is.1))

  pub has_array : IsThere bytes is_array_value k → HasArray bytes k
  has_array there = let is = array_in there there.json.0 there.json.1 in ((node_at there.json.0 k).place, is.0, (there.json.0, there.json.1, is.2))

  pub has_object : IsThere bytes is_object_value k → HasObject bytes k
  has_object there = let is = object_in there there.json.0 there.json.1 in ((node_at there.json.0 k).place, is.0, (there.json.0, there.json.1, is.2))

  pub has_string : IsThere bytes is_string_value k → HasString bytes k
  has_string there = let is = string_in there there.json.0 there.json.1 in ((node_at there.json.0 k).place, is.0, (there.json.0, there.json.1, is.2))

  pub has_number : IsThere bytes is_number_value k → HasNumber bytes k
  has_number there = let is = number_in there there.json.0 there.json.1 in ((node_at there.json.0 k).place, is.0, (there.json.0, there.json.1, is.2))

  module _ (json : Json) (of : IsJsonOf bytes json) where
    -- what is told of the tree's node is told of the values
    pub place_read : (test : Value → Bool) (place : ℕ) → IsThere bytes test k → ((is : Node) → IsNode bytes k is → place ≡ is.place) → place ≡ json.place k
    place_read test place there f = f (node_at of.tree k) (is_node bytes test k there of.tree of.spelled) ∙ ap (λ j. j.place k) (sym of.values)

    pub items_read : (nodes : List ℕ) → IsThere bytes is_array_value k
        → ((place : ℕ) (between : Items) → IsNode bytes k (record { place = place; value = array between }) → nodes ≡ map (λ item. item.number) (array_items between k place)) → nodes ≡ json.items k
    items_read nodes there f =
        let is = array_in there of.tree of.spelled in
        let place = (node_at of.tree k).place in
        f place is.0 (of.tree, of.spelled, is.2) ∙ ap (λ v. value_items v k place) (sym is.1) ∙ ap (λ j. j.items k) (sym of.values)

    pub text_read : (text : List ℕ) → IsThere bytes is_string_value k
        → ((place : ℕ) (marks : List Mark) → IsNode bytes k (record { place = place; value = string marks }) → text ≡ string_text marks) → text ≡ json.text k
    text_read text there f =
        let is = string_in there of.tree of.spelled in
        f (node_at of.tree k).place is.0 (of.tree, of.spelled, is.2) ∙ ap value_text (sym is.1) ∙ ap (λ j. j.text k) (sym of.values)

    pub digits_read : (digits : List ℕ) → IsThere bytes is_number_value k
        → ((place : ℕ) (n : Number) → IsNode bytes k (record { place = place; value = number n }) → digits ≡ number_text n) → digits ≡ json.digits k
    digits_read digits there f =
        let is = number_in there of.tree of.spelled in
        f (node_at of.tree k).place is.0 (of.tree, of.spelled, is.2) ∙ ap value_digits (sym is.1) ∙ ap (λ j. j.digits k) (sym of.values)

    pub member_read : (name : List ℕ) (found : Option ℕ) → IsThere bytes is_object_value k
        → ((place : ℕ) (between : Members) → IsNode bytes k (record { place = place; value = object between }) → IsFirstNamed (object_members between k place) name found) → found ≡ json.member k name
    member_read name found there f =
        let is = object_in there of.tree of.spelled in
        let place = (node_at of.tree k).place in
        named (object_members is.0 k place) name found (f place is.0 (of.tree, of.spelled, is.2)) ∙ ap (λ v. value_member v k place name) (sym is.1) ∙ ap (λ j. j.member k name) (sym of.values)

  -- The numbers are those of values, which rise.
  numbers_there : (least : ℕ) (numbers : List ℕ) → IsJson bytes → ((tree : Text) → text_bytes tree ≡ bytes → RiseWithin least (length (text_nodes tree)) numbers) → AreThere bytes least numbers
  numbers_there least [] json f = tt
  numbers_there least (n ∷ more) json f = (
    record { json = json; each = λ tree e. (node_at tree n, slice_get-get_or (text_nodes tree) n (record { place = 0; value = literal null_literal }) (f tree e).1, refl) },
    (f json.0 json.1).0,
    numbers_there (suc n) more json (λ tree e. (f tree e).2),
  )

  pub items_there : (nodes : List ℕ) → IsThere bytes is_array_value k
      → ((place : ℕ) (between : Items) → IsNode bytes k (record { place = place; value = array between }) → nodes ≡ map (λ item. item.number) (array_items between k place))
      → AreThere bytes (suc k) nodes
  items_there nodes there f = numbers_there (suc k) nodes there.json (λ tree e.
      let is = array_in there tree e in
      let place = (node_at tree k).place in
      subst (RiseWithin (suc k) (length (text_nodes tree))) (sym (f place is.0 (tree, e, is.2))) (items_within tree k place is.0 is.2))

  pub member_there : (name : List ℕ) (found : ℕ) → IsThere bytes is_object_value k
      → ((place : ℕ) (between : Members) → IsNode bytes k (record { place = place; value = object between }) → IsFirstNamed (object_members between k place) name (Some found))
      → IsThere bytes is_value found
  member_there name found there f = record {
    json = there.json;
    each = λ tree e.
        let is = object_in there tree e in
        let place = (node_at tree k).place in
        let within = member_within tree k place found is.0 name is.2 (f place is.0 (tree, e, is.2)) in
        (node_at tree found, slice_get-get_or (text_nodes tree) found (record { place = 0; value = literal null_literal }) within, refl);
  }

pub not_string : (kind : JsonKind) → (kind ≡ Kind.String → ⊥) → false ≡ is_string_kind kind
not_string Kind.String n = absurd (n refl)
not_string _ n = refl

pub not_number : (kind : JsonKind) → (kind ≡ Kind.Number → ⊥) → false ≡ is_number_kind kind
not_number Kind.Number n = absurd (n refl)
not_number _ n = refl

pub not_array : (kind : JsonKind) → (kind ≡ Kind.Array → ⊥) → false ≡ is_array_kind kind
not_array Kind.Array n = absurd (n refl)
not_array _ n = refl

pub not_object : (kind : JsonKind) → (kind ≡ Kind.Object → ⊥) → false ≡ is_object_kind kind
not_object Kind.Object n = absurd (n refl)
not_object _ n = refl

pub any_value : {bytes : List ℕ} {test : Value → Bool} {k : ℕ} → IsThere bytes test k → IsThere bytes is_value k
any_value {bytes} {test} {k} there = record { json = there.json; each = λ tree e. (node_at tree k, node_in bytes test k there tree e, refl) }

value_first : (value : Value) (place : ℕ) → slice_get (value_nodes value place) 0 ≡ Some (record { place = place; value = value })
value_first (literal word) place = refl
value_first (number n) place = refl
value_first (string marks) place = refl
value_first (array between) place = refl
value_first (object between) place = refl

-- The first node is that of the text's value.
pub root_there : (bytes : List ℕ) (k : ℕ) → k ≡ 0 → HasNode bytes k → IsThere bytes is_value k
root_there bytes k first has = subst (IsThere bytes is_value) (sym first) (record {
  json = (has.1.0, has.1.1);
  each = λ tree e. (record { place = length tree.before; value = tree.value }, value_first tree.value (length tree.before), refl);
})
