-- What is within an array or an object is a node of the text too.
use Rattle.std.proofs.Common.{◌≡◌, ℕ, suc, List, [], ◌∷◌, refl, arith, ◌+◌, length}
use Rattle.json_text.specs.Grammar.{text_bytes}
use Rattle.json_text.specs.Node.{Node, IsNode, AreNodes, ItemsAreNodes, MembersAreNodes, array_items, more_array_items, object_members, more_object_members, member_values, node_count, value_length, value_place, value_nodes, items_nodes, more_items_nodes, members_nodes, more_members_nodes, text_nodes}
use Rattle.json_text.specs.Placed.{IsPart}
use Rattle.json_text.specs.Syntax.{Value, literal, number, string, array, object, Items, no_items, items, MoreItems, last_item, next_item, Members, no_members, members, MoreMembers, last_member, next_member, Text}
use Rattle.json_text.proofs.Kept.{part_first}
use Rattle.json_text.proofs.Lengths.{count_value}
use Rattle.json_text.proofs.Places.{node_placed, part_head, part_rest, part_tail}
use mathlib.Core.Path.{subst, sym, ◌∙◌}

abbrev inner_nodes : Value → ℕ → List Node
inner_nodes (literal word) place = []
inner_nodes (number n) place = []
inner_nodes (string marks) place = []
inner_nodes (array between) place = items_nodes between (suc place)
inner_nodes (object between) place = members_nodes between (suc place)

nodes_first : (value : Value) (place : ℕ) → value_nodes value place ≡ record { place = place; value = value } ∷ inner_nodes value place
nodes_first (literal word) place = refl
nodes_first (number n) place = refl
nodes_first (string marks) place = refl
nodes_first (array between) place = refl
nodes_first (object between) place = refl

pub node_length : (value : Value) (place : ℕ) → length (value_nodes value place) ≡ node_count value
node_length value place = sym (count_value value 0 0 0 0 place) ∙ count_value value 0 0 0 0 0

module _ (text : Text) where
  part_node : (value : Value) (k place : ℕ) → IsPart (text_nodes text) (value_nodes value place) k → IsNode (text_bytes text) k (record { place = place; value = value })
  part_node value k place p =
      (text, refl, part_first (text_nodes text) (record { place = place; value = value }) (inner_nodes value place) k (subst (λ z. IsPart (text_nodes text) z k) (nodes_first value place) p))

  more_items_are : (more : MoreItems) (k place : ℕ) → IsPart (text_nodes text) (more_items_nodes more place) k → AreNodes (text_bytes text) (more_array_items more k place)
  more_items_are last_item k place p = tt
  more_items_are (next_item before value after more) k place p =
      let start = suc place + length before in
      let end = start + value_length value + length after in (
        part_node value k start (part_head (text_nodes text) (value_nodes value start) (more_items_nodes more end) k p),
        more_items_are more (k + node_count value) end (part_tail (text_nodes text) (value_nodes value start) (more_items_nodes more end) k (k + node_count value) (omega (arith, node_length value start)) p),
      )

  more_members_are : (more : MoreMembers) (k place : ℕ) → IsPart (text_nodes text) (more_members_nodes more place) k → AreNodes (text_bytes text) (member_values (more_object_members more k place))
  more_members_are last_member k place p = tt
  more_members_are (next_member before name after_name before_value value after more) k place p =
      let start = value_place (suc place + length before) name after_name before_value in
      let end = start + value_length value + length after in (
        part_node value k start (part_head (text_nodes text) (value_nodes value start) (more_members_nodes more end) k p),
        more_members_are more (k + node_count value) end (part_tail (text_nodes text) (value_nodes value start) (more_members_nodes more end) k (k + node_count value) (omega (arith, node_length value start)) p),
      )

  items_are : (between : Items) (k place : ℕ) → IsPart (text_nodes text) (value_nodes (array between) place) k → AreNodes (text_bytes text) (array_items between k place)
  items_are (no_items whites) k place p = tt
  items_are (items before value after more) k place p =
      more_items_are (next_item before value after more) (suc k) place (part_rest (text_nodes text) _ (items_nodes (items before value after more) (suc place)) k p)

  members_are : (between : Members) (k place : ℕ) → IsPart (text_nodes text) (value_nodes (object between) place) k → AreNodes (text_bytes text) (member_values (object_members between k place))
  members_are (no_members whites) k place p = tt
  members_are (members before name after_name before_value value after more) k place p =
      more_members_are (next_member before name after_name before_value value after more) (suc k) place
      (part_rest (text_nodes text) _ (members_nodes (members before name after_name before_value value after more) (suc place)) k p)

pub items_are_nodes : ItemsAreNodes
items_are_nodes bytes node place between is =
    subst (λ z. AreNodes z (array_items between node place)) is.1
    (items_are is.0 between node place (node_placed is.0 node (record { place = place; value = array between }) is.2).within)

pub members_are_nodes : MembersAreNodes
members_are_nodes bytes node place between is =
    subst (λ z. AreNodes z (member_values (object_members between node place))) is.1
    (members_are is.0 between node place (node_placed is.0 node (record { place = place; value = object between }) is.2).within)
