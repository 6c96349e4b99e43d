-- The shapes of a text's values, in the order of their nodes.
use Rattle.std.specs.Prelude.{ℕ, suc, ◌+◌, List, [], ◌∷◌, ◌++◌, length}
use Rattle.json_text.specs.Syntax.{Value, literal, number, string, array, object, Items, no_items, items, MoreItems, last_item, next_item, Members, no_members, members, MoreMembers, last_member, next_member, Text}
use Rattle.json_text.specs.Grammar.{mark_bytes}
use Rattle.json_text.specs.Node.{kind_of, node_count, value_length, value_place, place_behind}
use Rattle.json_text.specs.Recording.{Shape}

-- the shape of the value at the place that has the number
abbrev pub shape : Value → ℕ → ℕ → ℕ → ℕ → ℕ → Shape
shape value node place end name_from name_to =
    record {
      kind = kind_of value;
      place = place;
      end = end;
      next = node + node_count value;
      name_from = name_from;
      name_to = name_to;
    }

-- the shape of a literal, a number or a string
abbrev pub whole_shape : Value → ℕ → ℕ → ℕ → ℕ → Shape
whole_shape value node place from to = shape value node place (place + value_length value) from to

-- the shape of an array or an object, which ends behind its opening bracket
abbrev pub opened_shape : Value → ℕ → ℕ → ℕ → ℕ → Shape
opened_shape value node place from to = shape value node place (suc place) from to

abbrev mutual
  pub value_shapes : Value → ℕ → ℕ → ℕ → ℕ → List Shape
  value_shapes (literal word) node place from to =
      whole_shape (literal word) node place from to ∷ []
  value_shapes (number n) node place from to = whole_shape (number n) node place from to ∷ []
  value_shapes (string marks) node place from to =
      whole_shape (string marks) node place from to ∷ []
  value_shapes (array between) node place from to =
      opened_shape (array between) node place from to
      ∷ items_shapes between (suc node) (suc place)
  value_shapes (object between) node place from to =
      opened_shape (object between) node place from to
      ∷ members_shapes between (suc node) (suc place)

  pub items_shapes : Items → ℕ → ℕ → List Shape
  items_shapes (no_items whites) node place = []
  items_shapes (items before value after more) node place =
      value_shapes value node (place + length before) 0 0
      ++ more_items_shapes more (node + node_count value)
      (place_behind (place + length before) value after)

  pub more_items_shapes : MoreItems → ℕ → ℕ → List Shape
  more_items_shapes last_item node place = []
  more_items_shapes (next_item before value after more) node place =
      value_shapes value node (suc place + length before) 0 0
      ++ more_items_shapes more (node + node_count value)
      (place_behind (suc place + length before) value after)

  pub members_shapes : Members → ℕ → ℕ → List Shape
  members_shapes (no_members whites) node place = []
  members_shapes (members before name after_name before_value value after more) node place =
      let quote = place + length before in
      let start = value_place quote name after_name before_value in
      value_shapes value node start (suc quote) (quote + length (mark_bytes name []))
      ++ more_members_shapes more (node + node_count value) (place_behind start value after)

  pub more_members_shapes : MoreMembers → ℕ → ℕ → List Shape
  more_members_shapes last_member node place = []
  more_members_shapes (next_member before name after_name before_value value after more) node
      place =
      let quote = suc place + length before in
      let start = value_place quote name after_name before_value in
      value_shapes value node start (suc quote) (quote + length (mark_bytes name []))
      ++ more_members_shapes more (node + node_count value) (place_behind start value after)

abbrev pub text_shapes : Text → List Shape
text_shapes text = value_shapes text.value 0 (length text.before) 0 0
