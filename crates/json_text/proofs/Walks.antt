-- Going over the items of an array and the members of an object.
use Rattle.std.proofs.Common.{◌≡◌, ℕ, zero, suc, Bool, true, false, List, [], ◌∷◌, ◌++◌, Some, refl, arith, ◌+◌, ◌-◌, ◌≤◌, ◌<◌, length, map, get_or, slice_get, length-append, nat_lt}
use Rattle.std.proofs.lemmas.Option.{slice_get-map}
use Rattle.std.specs.Option.{option_map}
use Rattle.json_text.specs.Content.{AreRowsOf}
use Rattle.json_text.specs.Grammar.{white_bytes, mark_bytes, value_bytes, members_bytes, more_members_bytes, text_bytes}
use Rattle.json_text.specs.Node.{Node, array_items, more_array_items, object_members, more_object_members, node_count, value_length, value_place}
use Rattle.json_text.specs.StringText.{string_text}
use Rattle.json_text.specs.Placed.{IsPart, StandsAt, IsQuoted}
use Rattle.json_text.specs.Progress.{shape_of}
use Rattle.json_text.specs.Recording.{Shape}
use Rattle.json_text.specs.Shapes.{shape, value_shapes, items_shapes, more_items_shapes, members_shapes, more_members_shapes}
use Rattle.json_text.specs.Syntax.{White, Mark, Value, literal, number, string, array, object, Items, no_items, items, MoreItems, last_item, next_item, Members, no_members, members, MoreMembers, last_member, next_member, Text}
use Rattle.json_text.specs.Walk.{next_of, walk, Rises, HasNameAt, AreMembers}
use Rattle.json_text.specs.declared.row.Row.{Row}
use Rattle.json_text.proofs.Kept.{inner_shapes, node_at, part_first, part_length, same_row, some_at, token_end, value_first}
use Rattle.json_text.proofs.Lengths.{count_value, value_splits}
use Rattle.json_text.proofs.Places.{behind_byte, behind_name, behind_white, part_head, part_rest, part_tail, quoted, stands_behind}
use mathlib.Core.Path.{subst, ap, sym, ◌∙◌}

length_map : {A B : Type 0} (f : A → B) (xs : List A) → length (map f xs) ≡ length xs
length_map f [] = refl
length_map f (x ∷ xs) = ap suc (length_map f xs)

pub next_is : (rows : List Row) (k : ℕ) (row : Row) → slice_get rows k ≡ Some row → next_of rows k ≡ row.next
next_is [] k row e = absurd (grind (arith, e))
next_is (x ∷ rows) zero row e = ap (λ r. r.next) (same_row (Some x) x row refl e)
next_is (x ∷ rows) (suc k) row e = next_is rows k row e

-- The row of the first of these shapes.
pub record FirstRow (rows : List Row) (s : Shape) (k : ℕ) : Type 0 where
  pub row : Row
  pub is : slice_get rows k ≡ Some row
  pub shape : shape_of row ≡ s

pub first_row : (rows : List Row) (s : Shape) (xs : List Shape) (k : ℕ) → IsPart (map shape_of rows) (s ∷ xs) k → FirstRow rows s k
first_row rows s xs k p =
    let long : length (map shape_of rows) ≡ length rows = length_map shape_of rows in
    let some = some_at rows k (omega (arith, part_length (map shape_of rows) (s ∷ xs) k p, long)) in
    record {
      row = some.0;
      is = some.1;
      shape = same_row (slice_get (map shape_of rows) k) (shape_of some.0) s (slice_get-map shape_of rows k ∙ ap (λ o. option_map shape_of o) some.1) (part_first (map shape_of rows) s xs k p);
    }

pub value_row : (rows : List Row) (value : Value) (k place from to : ℕ) → IsPart (map shape_of rows) (value_shapes value k place from to) k
    → FirstRow rows (shape value k place (token_end value place) from to) k
value_row rows value k place from to p =
    first_row rows (shape value k place (token_end value place) from to) (inner_shapes value k place) k (subst (λ z. IsPart (map shape_of rows) z k) (value_first value k place from to) p)

value_next : (rows : List Row) (value : Value) (k place from to : ℕ) → IsPart (map shape_of rows) (value_shapes value k place from to) k → next_of rows k ≡ k + node_count value
value_next rows value k place from to p = let f = value_row rows value k place from to p in next_is rows k f.row f.is ∙ ap (λ s. s.next) f.shape

pub some_nodes : (value : Value) → 0 < node_count value
some_nodes (literal word) = omega arith
some_nodes (number n) = omega arith
some_nodes (string marks) = omega arith
some_nodes (array between) = omega arith
some_nodes (object between) = omega arith

shape_length : (value : Value) (node place from to : ℕ) → length (value_shapes value node place from to) ≡ node_count value
shape_length value node place from to = count_value value node place from to 0

walk_on : (rows : List Row) (most node last : ℕ) → node < last → walk rows (suc most) node last ≡ node ∷ walk rows most (next_of rows node) last
walk_on rows most node last r = let t : nat_lt node last ≡ true = grind (arith, r) in rw t refl

pub walk_over : (rows : List Row) (most node last : ℕ) → last ≤ node → walk rows most node last ≡ []
walk_over rows zero node last r = refl
walk_over rows (suc most) node last r = let t : nat_lt node last ≡ false = grind (arith, r) in rw t refl

module _ (nodes : List Node) (rows : List Row) (bytes : List ℕ) where
  abbrev all : List Shape
  all = map shape_of rows

  walk_more : (more : MoreItems) (k place most last : ℕ) → IsPart all (more_items_shapes more k place) k → k + length (more_items_shapes more k place) ≡ last → last - k ≤ most
      → walk rows most k last ≡ map (λ item. item.number) (more_array_items more k place)
  walk_more last_item k place most last p e m = walk_over rows most k last (omega (arith, e))
  walk_more (next_item before value after more) k place zero last p e m =
      absurd (omega (
        arith,
        e,
        m,
        some_nodes value,
        shape_length value k (suc place + length before) 0 0,
        length-append (value_shapes value k (suc place + length before) 0 0) (more_items_shapes more (k + node_count value) (suc place + length before + value_length value + length after)),
      ))
  walk_more (next_item before value after more) k place (suc most) last p e m =
      let start = suc place + length before in
      let end = start + value_length value + length after in
      let firsts = value_shapes value k start 0 0 in
      let rest = more_items_shapes more (k + node_count value) end in
      let long : length (firsts ++ rest) ≡ length firsts + length rest = length-append firsts rest in
      let count : length firsts ≡ node_count value = shape_length value k start 0 0 in
      let next : next_of rows k ≡ k + node_count value = value_next rows value k start 0 0 (part_head all firsts rest k p) in
      walk_on rows most k last (omega (arith, e, long, count, some_nodes value))
      ∙ ap (λ n. k ∷ walk rows most n last) next
      ∙ ap (λ z. k ∷ z) (walk_more more (k + node_count value) end most last (part_tail all firsts rest k (k + node_count value) (omega (arith, count)) p) (omega (arith, e, long, count)) (omega (arith, m, some_nodes value)))

  -- The items of an array are walked over.
  pub walk_items : (between : Items) (k place from to most last : ℕ) → IsPart all (value_shapes (array between) k place from to) k → next_of rows k ≡ last → last - suc k ≤ most
      → walk rows most (suc k) last ≡ map (λ item. item.number) (array_items between k place)
  walk_items (no_items whites) k place from to most last p e m =
      walk_over rows most (suc k) last (omega (arith, e, value_next rows (array (no_items whites)) k place from to p))
  walk_items (items before value after more) k place from to most last p e m =
      let inner = items_shapes (items before value after more) (suc k) (suc place) in
      let part = part_rest all (shape (array (items before value after more)) k place (suc place) from to) inner k p in
      let long : length (value_shapes (array (items before value after more)) k place from to) ≡ node_count (array (items before value after more)) = shape_length (array (items before value after more)) k place from to in
      walk_more (next_item before value after more) (suc k) place most last part
      (omega (arith, e, value_next rows (array (items before value after more)) k place from to p, long)) m

  named_at : (value : Value) (name : List Mark) (k place from to quote : ℕ) → from ≡ suc quote → IsQuoted bytes name quote to → IsPart all (value_shapes value k place from to) k
      → HasNameAt rows bytes k (string_text name)
  named_at value name k place from to quote e q p =
      let f = value_row rows value k place from to p in
      let a : f.row.name_from ≡ from = ap (λ s. s.name_from) f.shape in
      let b : f.row.name_to ≡ to = ap (λ s. s.name_to) f.shape in
      record {
        row = f.row;
        is = f.is;
        some = omega (arith, a, e);
        marks = name;
        quoted = subst (λ n. IsQuoted bytes name n f.row.name_to) (omega (arith, a, e)) (subst (IsQuoted bytes name quote) (sym b) q);
        text = refl;
      }

  abbrev Named : List White → List Mark → List White → List White → Value → List White → MoreMembers → ℕ → Type 0
  Named before name after_name before_value value after more place =
      StandsAt bytes (λ rest. white_bytes before (34 ∷ mark_bytes name (white_bytes after_name (58 ∷ white_bytes before_value (value_bytes value (white_bytes after (more_members_bytes more rest))))))) place

  abbrev AreMore : MoreMembers → Type 0
  AreMore more = (k place last : ℕ) → IsPart all (more_members_shapes more k place) k → StandsAt bytes (more_members_bytes more) place
      → k + length (more_members_shapes more k place) ≡ last → AreMembers rows bytes (more_object_members more k place) k last

  -- a member whose comma, or whose object's bracket, stands at the place
  member_is : (before : List White) (name : List Mark) (after_name before_value : List White) (value : Value) (after : List White) (more : MoreMembers) → AreMore more → (k place last : ℕ)
      → IsPart all (more_members_shapes (next_member before name after_name before_value value after more) k place) k
      → Named before name after_name before_value value after more (suc place)
      → k + length (more_members_shapes (next_member before name after_name before_value value after more) k place) ≡ last
      → AreMembers rows bytes (more_object_members (next_member before name after_name before_value value after more) k place) k last
  member_is before name after_name before_value value after more are k place last p t e =
      let quote = suc place + length before in
      let start = value_place quote name after_name before_value in
      let end = start + value_length value + length after in
      let to = quote + length (mark_bytes name []) in
      let firsts = value_shapes value k start (suc quote) to in
      let rest = more_members_shapes more (k + node_count value) end in
      let long : length (firsts ++ rest) ≡ length firsts + length rest = length-append firsts rest in
      let count : length firsts ≡ node_count value = shape_length value k start (suc quote) to in
      let next : next_of rows k ≡ k + node_count value = value_next rows value k start (suc quote) to (part_head all firsts rest k p) in
      let h : List ℕ → List ℕ = λ rest. value_bytes value (white_bytes after (more_members_bytes more rest)) in
      let q = behind_white nodes all bytes before (λ rest. 34 ∷ mark_bytes name (white_bytes after_name (58 ∷ white_bytes before_value (h rest)))) (suc place) quote refl t in
      let f = behind_name nodes all bytes name after_name before_value h quote q in
      let g = stands_behind nodes all bytes (value_bytes value) (λ rest. white_bytes after (more_members_bytes more rest)) start (start + value_length value) (value_splits value) refl f in (
        refl,
        omega (arith, e, long, count, some_nodes value),
        named_at value name k start (suc quote) to quote refl (quoted nodes all bytes name after_name before_value h quote q) (part_head all firsts rest k p),
        subst (λ n. AreMembers rows bytes (more_object_members more (k + node_count value) end) n last) (sym next)
            (are (k + node_count value) end last (part_tail all firsts rest k (k + node_count value) (omega (arith, count)) p)
            (behind_white nodes all bytes after (more_members_bytes more) (start + value_length value) end refl g) (omega (arith, e, long, count))),
      )

  more_members_are : (more : MoreMembers) (k place last : ℕ) → IsPart all (more_members_shapes more k place) k → StandsAt bytes (more_members_bytes more) place
      → k + length (more_members_shapes more k place) ≡ last → AreMembers rows bytes (more_object_members more k place) k last
  more_members_are last_member k place last p t e = omega (arith, e)
  more_members_are (next_member before name after_name before_value value after more) k place last p t e =
      member_is before name after_name before_value value after more (more_members_are more) k place last p
      (behind_byte nodes all bytes 44 (λ rest. white_bytes before (34 ∷ mark_bytes name (white_bytes after_name (58 ∷ white_bytes before_value (value_bytes value (white_bytes after (more_members_bytes more rest))))))) place (suc place) refl t) e

  -- The members of an object are those of its nodes.
  pub members_are : (between : Members) (k place from to last : ℕ) → IsPart all (value_shapes (object between) k place from to) k → StandsAt bytes (value_bytes (object between)) place
      → next_of rows k ≡ last → AreMembers rows bytes (object_members between k place) (suc k) last
  members_are (no_members whites) k place from to last p t e = omega (arith, e, value_next rows (object (no_members whites)) k place from to p)
  members_are (members before name after_name before_value value after more) k place from to last p t e =
      let between = members before name after_name before_value value after more in
      let inner = members_shapes between (suc k) (suc place) in
      let part = part_rest all (shape (object between) k place (suc place) from to) inner k p in
      let long : length (value_shapes (object between) k place from to) ≡ node_count (object between) = shape_length (object between) k place from to in
      member_is before name after_name before_value value after more (more_members_are more) (suc k) place last part
      (behind_byte nodes all bytes 123 (members_bytes between) place (suc place) refl t)
      (omega (arith, e, value_next rows (object between) k place from to p, long))

-- The rows of a text rise.
pub rows_rise : (rows : List Row) (bytes : List ℕ) (text : Text) → AreRowsOf bytes rows → text_bytes text ≡ bytes → Rises rows
rows_rise rows bytes text are e k r =
    let n = node_at rows bytes text k are e r in
    omega (arith, value_next rows n.node.value k n.node.place n.placed.name_from n.placed.name_to n.placed.part, some_nodes n.node.value)

-- The nodes behind one are within the rows.
pub next_within : (rows : List Row) (bytes : List ℕ) (text : Text) (k : ℕ) → AreRowsOf bytes rows → text_bytes text ≡ bytes → k < length rows → next_of rows k ≤ length rows
next_within rows bytes text k are e r =
    let n = node_at rows bytes text k are e r in
    let long : length (map shape_of rows) ≡ length rows = length_map shape_of rows in
    omega (
      arith,
      value_next rows n.node.value k n.node.place n.placed.name_from n.placed.name_to n.placed.part,
      part_length (map shape_of rows) _ k n.placed.part,
      shape_length n.node.value k n.node.place n.placed.name_from n.placed.name_to,
      long,
    )

-- A walk has as many steps as it needs.
enough_by : (rows : List Row) (last most more node : ℕ) → (node < last → walk rows most (next_of rows node) last ≡ walk rows more (next_of rows node) last)
    → (t : Bool) → nat_lt node last ≡ t → walk rows (suc most) node last ≡ walk rows (suc more) node last
enough_by rows last most more node same true e =
    let r : node < last = grind (arith, e) in walk_on rows most node last r ∙ ap (λ z. node ∷ z) (same r) ∙ sym (walk_on rows more node last r)
enough_by rows last most more node same false e =
    let r : last ≤ node = grind (arith, e) in walk_over rows (suc most) node last r ∙ sym (walk_over rows (suc more) node last r)

walk_enough : (rows : List Row) (last : ℕ) → Rises rows → last ≤ length rows → (most more node : ℕ) → last - node ≤ most → last - node ≤ more → walk rows most node last ≡ walk rows more node last
walk_enough rows last rise w zero more node a b = sym (walk_over rows more node last (omega (arith, a)))
walk_enough rows last rise w (suc most) zero node a b = walk_over rows (suc most) node last (omega (arith, b))
walk_enough rows last rise w (suc most) (suc more) node a b =
    enough_by rows last most more node
    (λ r. walk_enough rows last rise w most more (next_of rows node) (omega (arith, a, rise node (omega (arith, r, w)))) (omega (arith, b, rise node (omega (arith, r, w)))))
    (nat_lt node last) refl

-- One step of it.
pub walk_step : (rows : List Row) (last node next : ℕ) → Rises rows → last ≤ length rows → node < last → next ≡ next_of rows node
    → walk rows (last - node) node last ≡ node ∷ walk rows (last - next) next last
walk_step rows last node next rise w r e =
    let up : node < next_of rows node = rise node (omega (arith, r, w)) in
    let one : last - node ≡ suc (last - node - 1) = omega (arith, r) in
    ap (λ m. walk rows m node last) one ∙ walk_on rows (last - node - 1) node last r
    ∙ ap (λ z. node ∷ z) (walk_enough rows last rise w (last - node - 1) (last - next_of rows node) (next_of rows node) (omega (arith, up)) (omega arith)
    ∙ ap (λ n. walk rows (last - n) n last) (sym e))

pub next_read : (rows : List Row) (k : ℕ) (row : Row) → k < length rows → (get_or rows k row).next ≡ next_of rows k
next_read [] k row r = absurd (omega (arith, r))
next_read (x ∷ rows) zero row r = refl
next_read (x ∷ rows) (suc k) row r = next_read rows k row (omega (arith, r))
