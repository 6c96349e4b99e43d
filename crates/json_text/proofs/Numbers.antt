-- Which numbers the items of an array and the members of an object have: for callers.
use Rattle.std.proofs.Common.{◌≡◌, ℕ, suc, List, [], ◌∷◌, Some, inl, inr, arith, ◌+◌, ◌<◌, ◌≤◌, length, length-append, map, slice_get}
use Rattle.json_text.specs.Node.{MemberNode, Node, IsFirstNamed, array_items, more_array_items, object_members, more_object_members, node_count, place_behind, value_place, value_nodes, more_items_nodes, more_members_nodes, text_nodes}
use Rattle.json_text.specs.Syntax.{array, object, Items, no_items, items, MoreItems, last_item, next_item, Members, no_members, members, MoreMembers, last_member, next_member, Text}
use Rattle.json_text.proofs.Children.{node_length}
use Rattle.json_text.proofs.Kept.{part_length}
use Rattle.json_text.proofs.Places.{node_placed}
use Rattle.json_text.proofs.Walks.{some_nodes}

-- A node's number and the count of its nodes are within the text.
node_fits : (text : Text) (k : ℕ) (node : Node) → slice_get (text_nodes text) k ≡ Some node → k + node_count node.value ≤ length (text_nodes text)
node_fits text k node e =
    omega (
      arith,
      part_length (text_nodes text) (value_nodes node.value node.place) k (node_placed text k node e).within,
      node_length node.value node.place,
    )

-- The numbers rise, from the least on, and are below the end.
abbrev pub RiseWithin : ℕ → ℕ → List ℕ → Type 0
RiseWithin least end [] = Unit {0}
RiseWithin least end (n ∷ more) = (least ≤ n) × (n < end) × RiseWithin (suc n) end more

rise_lower : (low least end : ℕ) (numbers : List ℕ) → low ≤ least → RiseWithin least end numbers → RiseWithin low end numbers
rise_lower low least end [] l r = tt
rise_lower low least end (n ∷ more) l r = (omega (arith, r.0, l), r.1, r.2)

more_items_rise : (more : MoreItems) (first place p end : ℕ) → first + length (more_items_nodes more p) ≤ end → RiseWithin first end (map (λ item. item.number) (more_array_items more first place))
more_items_rise last_item first place p end l = tt
more_items_rise (next_item before value after more) first place p end l =
    let start = suc p + length before in
    let behind = place_behind start value after in
    let count = node_length value start in
    let whole = length-append (value_nodes value start) (more_items_nodes more behind) in
    let some = some_nodes value in
    (omega arith, omega arith, rise_lower (suc first) (first + node_count value) end _ (omega arith) (more_items_rise more (first + node_count value) _ behind end (omega arith)))

-- The items of an array that has the number.
items_rise : (between : Items) (k place end : ℕ) → k + node_count (array between) ≤ end → RiseWithin (suc k) end (map (λ item. item.number) (array_items between k place))
items_rise (no_items whites) k place end l = tt
items_rise (items before value after more) k place end l = more_items_rise (next_item before value after more) (suc k) place 0 end (omega arith)

pub items_within : (text : Text) (k place : ℕ) (between : Items) → slice_get (text_nodes text) k ≡ Some (record { place = place; value = array between })
    → RiseWithin (suc k) (length (text_nodes text)) (map (λ item. item.number) (array_items between k place))
items_within text k place between e = items_rise between k place (length (text_nodes text)) (node_fits text k (record { place = place; value = array between }) e)

abbrev AllBelow : ℕ → List MemberNode → Type 0
AllBelow end [] = Unit {0}
AllBelow end (member ∷ more) = (member.number < end) × AllBelow end more

more_members_below : (more : MoreMembers) (first place p end : ℕ) → first + length (more_members_nodes more p) ≤ end → AllBelow end (more_object_members more first place)
more_members_below last_member first place p end l = tt
more_members_below (next_member before name after_name before_value value after more) first place p end l =
    let start = value_place (suc p + length before) name after_name before_value in
    let behind = place_behind start value after in
    let count = node_length value start in
    let whole = length-append (value_nodes value start) (more_members_nodes more behind) in
    let some = some_nodes value in
    (omega arith, more_members_below more (first + node_count value) _ behind end (omega arith))

members_below : (between : Members) (k place end : ℕ) → k + node_count (object between) ≤ end → AllBelow end (object_members between k place)
members_below (no_members whites) k place end l = tt
members_below (members before name after_name before_value value after more) k place end l =
    more_members_below (next_member before name after_name before_value value after more) (suc k) place 0 end (omega arith)

named_below : (all : List MemberNode) (name : List ℕ) (end found : ℕ) → AllBelow end all → IsFirstNamed all name (Some found) → found < end
named_below [] name end found b f = absurd (cc)
named_below (member ∷ more) name end found b (inl f) = omega (arith, b.0, some_same found member.number f.1)
  where
    some_same : (x y : ℕ) → Some x ≡ Some y → x ≡ y
    some_same x y e = cc
named_below (member ∷ more) name end found b (inr f) = named_below more name end found b.1 f.1

pub member_within : (text : Text) (k place found : ℕ) (between : Members) (name : List ℕ) → slice_get (text_nodes text) k ≡ Some (record { place = place; value = object between })
    → IsFirstNamed (object_members between k place) name (Some found) → found < length (text_nodes text)
member_within text k place found between name e f =
    named_below (object_members between k place) name (length (text_nodes text)) found
    (members_below between k place (length (text_nodes text)) (node_fits text k (record { place = place; value = object between }) e)) f
