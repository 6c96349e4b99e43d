-- What is noted of a text's bytes are the shapes of its values.
use Rattle.std.proofs.Common.{◌≡◌, ℕ, suc, Bool, true, false, ◌||◌, ◌==◌, List, [], ◌∷◌, ◌++◌, refl, arith, ◌+◌, ◌-◌, length, append_assoc, length-append}
use Rattle.json_text.specs.Byte.{is_white, is_first_digit}
use Rattle.json_text.specs.Syntax.{White, Whole, nought, positive, Mark, null_literal, true_literal, false_literal, Value, literal, number, string, array, object, Items, no_items, items, MoreItems, last_item, next_item, Members, no_members, members, MoreMembers, last_member, next_member, Text}
use Rattle.json_text.specs.Grammar.{white_bytes, minus_bytes, whole_bytes, mark_bytes, number_bytes, value_bytes, items_bytes, more_items_bytes, members_bytes, more_members_bytes, text_bytes}
use Rattle.json_text.specs.Machine as Machine
use Rattle.json_text.specs.Machine.{State, Frame, step}
use Rattle.json_text.specs.Node.{node_count, value_length, value_place}
use Rattle.json_text.specs.Recording.{Shape, Notes, recorded, begin_value, end_value, enter, close, change, no_notes}
use Rattle.json_text.specs.Shapes.{shape, value_shapes, items_shapes, more_items_shapes, members_shapes, more_members_shapes, text_shapes}
use Rattle.json_text.specs.declared.kind.JsonKind.{JsonKind}
use Rattle.json_text.specs.declared.kind.JsonKind.TheVariants as Kind
use Rattle.json_text.proofs.Lengths.{value_splits, marks_split, number_splits, long, white_long, count_value, count_items, count_members}
use Rattle.json_text.proofs.Recorded.{Follows, follows_white, here, skip, before_value_skips, after_open_array_skips, after_open_object_skips, before_name_skips, after_name_skips, after_value_skips, name_recorded, string_recorded, number_recorded}
use mathlib.Core.Path.{ap, ◌∙◌}

abbrev pub notes : List Shape → List ℕ → ℕ → ℕ → Notes
notes shapes opened from to = record { shapes = shapes; opened = opened; name_from = from; name_to = to }

-- the value has been read
abbrev with_value : Value → ℕ → Notes → Notes
with_value value place n = notes (n.shapes ++ value_shapes value (length n.shapes) place n.name_from n.name_to) n.opened 0 0

-- A shape behind others is changed.
change_after : (f : Shape → Shape) (before : List Shape) (s : Shape) (after : List Shape) → change f (length before) (before ++ (s ∷ after)) ≡ before ++ (f s ∷ after)
change_after f [] s after = refl
change_after f (x ∷ before) s after = ap (λ z. x ∷ z) (change_after f before s after)

change_last : (f : Shape → Shape) (before : List Shape) (s : Shape) → change f (length (before ++ (s ∷ [])) - 1) (before ++ (s ∷ [])) ≡ before ++ (f s ∷ [])
change_last f before s =
    let last : length (before ++ (s ∷ [])) - 1 ≡ length before = omega (arith, length-append before (s ∷ [])) in
    ap (λ k. change f k (before ++ (s ∷ []))) last ∙ change_after f before s []

-- a value that has no values within it
ended : (kind : JsonKind) (n : Notes) (place end next : ℕ) → suc (length n.shapes) ≡ next
    → end_value end (begin_value kind place n)
    ≡ notes (n.shapes ++ (record { kind = kind; place = place; end = end; next = next; name_from = n.name_from; name_to = n.name_to } ∷ [])) n.opened 0 0
ended kind n place end next e =
    ap (λ z. notes z n.opened 0 0) (change_last (λ s. record s { end = end }) n.shapes _)
    ∙ ap (λ next. notes (n.shapes ++ (record { kind = kind; place = place; end = end; next = next; name_from = n.name_from; name_to = n.name_to } ∷ [])) n.opened 0 0) e

-- The first item of an array shows that it has one.
not_white : (b : ℕ) → is_first_digit b ≡ true → (is_white b || (b == 93)) ≡ false
not_white b e = grind (arith, e)

enters_number : (negative : Bool) (whole : Whole) (stack : List Frame) (n : Notes) (place : ℕ) (rest : List ℕ)
    → recorded (Machine.after_open_array stack) n place (minus_bytes negative (whole_bytes whole rest))
    ≡ recorded (Machine.before_value (Machine.in_array ∷ stack)) (enter n) place (minus_bytes negative (whole_bytes whole rest))
enters_number true whole stack n place rest = refl
enters_number false nought stack n place rest = refl
enters_number false (positive first more) stack n place rest = rw (first.digit, recorded) (rw (not_white first.byte first.digit) (rw first.digit refl))

enters_array : (value : Value) (stack : List Frame) (n : Notes) (place : ℕ) (rest : List ℕ)
    → recorded (Machine.after_open_array stack) n place (value_bytes value rest) ≡ recorded (Machine.before_value (Machine.in_array ∷ stack)) (enter n) place (value_bytes value rest)
enters_array (literal null_literal) stack n place rest = refl
enters_array (literal true_literal) stack n place rest = refl
enters_array (literal false_literal) stack n place rest = refl
enters_array (number x) stack n place rest = enters_number x.negative x.whole stack n place _
enters_array (string marks) stack n place rest = refl
enters_array (array between) stack n place rest = refl
enters_array (object between) stack n place rest = refl

follows_more_items : (more : MoreItems) (rest : List ℕ) → Follows (more_items_bytes more rest)
follows_more_items last_item rest = (refl, refl, refl)
follows_more_items (next_item before value after more) rest = (refl, refl, refl)

follows_more_members : (more : MoreMembers) (rest : List ℕ) → Follows (more_members_bytes more rest)
follows_more_members last_member rest = (refl, refl, refl)
follows_more_members (next_member before name after_name before_value value after more) rest = (refl, refl, refl)

-- Values one after another.
appended : (shapes : List Shape) (value : Value) (node place from to place2 : ℕ) → length shapes ≡ node
    → length (shapes ++ value_shapes value node place from to) ≡ node + node_count value
appended shapes value node place from to place2 e =
    omega (arith, length-append shapes (value_shapes value node place from to), count_value value node place from to 0, e)

-- The rest of an array is read where its bracket is the innermost.
abbrev with_more_items : MoreItems → ℕ → List Shape → List ℕ → Notes
with_more_items more place shapes opened = close (notes (shapes ++ more_items_shapes more (length shapes) place) opened 0 0)

abbrev with_more_members : MoreMembers → ℕ → List Shape → List ℕ → Notes
with_more_members more place shapes opened = close (notes (shapes ++ more_members_shapes more (length shapes) place) opened 0 0)

nothing_after : (shapes : List Shape) → shapes ≡ shapes ++ []
nothing_after [] = refl
nothing_after (x ∷ shapes) = ap (λ z. x ∷ z) (nothing_after shapes)

-- first a value's shapes, and then those of what comes after it
two : (f : ℕ → List Shape) (shapes firsts : List Shape) (count : ℕ) → length (shapes ++ firsts) ≡ count
    → (shapes ++ firsts) ++ f (length (shapes ++ firsts)) ≡ shapes ++ (firsts ++ f count)
two f shapes firsts count e = ap (λ n. (shapes ++ firsts) ++ f n) e ∙ append_assoc shapes firsts (f count)

-- An array or an object that is closed: its shape was the last before those within it.
closed : (shapes : List Shape) (s : Shape) (inner : List Shape) (opened : List ℕ) (next : ℕ) → length shapes + suc (length inner) ≡ next
    → close (notes ((shapes ++ (s ∷ [])) ++ inner) ((length (shapes ++ (s ∷ [])) - 1) ∷ opened) 0 0) ≡ notes (shapes ++ (record s { next = next } ∷ inner)) opened 0 0
closed shapes s inner opened next e =
    ap (λ z. notes z opened 0 0)
    (ap (λ all. change (λ x. record x { next = length all }) (length (shapes ++ (s ∷ [])) - 1) all) (append_assoc shapes (s ∷ []) inner)
    ∙ ap (λ k. change (λ x. record x { next = length (shapes ++ (s ∷ inner)) }) k (shapes ++ (s ∷ inner))) (omega (arith, length-append shapes (s ∷ [])))
    ∙ change_after _ shapes s inner
    ∙ ap (λ n. shapes ++ (record s { next = n } ∷ inner)) (omega (arith, length-append shapes (s ∷ inner), e)))

abbrev IsRecorded : Value → List Frame → Type 0
IsRecorded value stack = (n : Notes) (place : ℕ) (rest : List ℕ) → Follows rest
    → recorded (Machine.before_value stack) n place (value_bytes value rest) ≡ recorded (Machine.after_value stack) (with_value value place n) (place + value_length value) rest

-- A member is read from its name's first byte on.
member_recorded : (name : List Mark) (after_name before_value : List White) (value : Value) (after : List White) (stack : List Frame) → IsRecorded value (Machine.in_object ∷ stack)
    → (shapes : List Shape) (opened : List ℕ) (place : ℕ) (rest : List ℕ) → Follows rest
    → recorded (Machine.in_string Machine.as_name (Machine.in_object ∷ stack)) (notes shapes opened (suc place) 0) (suc place)
    (mark_bytes name (white_bytes after_name (58 ∷ white_bytes before_value (value_bytes value (white_bytes after rest)))))
    ≡ recorded (Machine.after_value (Machine.in_object ∷ stack))
    (notes (shapes ++ value_shapes value (length shapes) (value_place place name after_name before_value) (suc place) (place + length (mark_bytes name []))) opened 0 0)
    (value_place place name after_name before_value + value_length value + length after) rest
member_recorded name after_name before_value value after stack is shapes opened place rest f =
    let inner = Machine.in_object ∷ stack in
    let x = white_bytes after rest in
    let end = place + length (mark_bytes name []) in
    let start = value_place place name after_name before_value in
    let n = notes shapes opened (suc place) end in
    name_recorded name inner (notes shapes opened (suc place) 0) (suc place) end (white_bytes after_name (58 ∷ white_bytes before_value (value_bytes value x))) (omega arith)
    ∙ skip (Machine.after_name inner) (after_name_skips inner) after_name n (suc end) (58 ∷ white_bytes before_value (value_bytes value x))
    ∙ skip (Machine.before_value inner) (before_value_skips inner) before_value n (suc (suc end + length after_name)) (value_bytes value x)
    ∙ here (Machine.before_value inner) n (value_bytes value x) (omega arith)
    ∙ is n start x (follows_white after rest f)
    ∙ skip (Machine.after_value inner) (after_value_skips inner) after (notes (shapes ++ value_shapes value (length shapes) start (suc place) end) opened 0 0) (start + value_length value) rest

-- The place behind a member and what comes after it.
member_long : (name : List Mark) (after_name before_value : List White) (value : Value) (after : List White) (f : List ℕ → List ℕ)
    → length (mark_bytes name (white_bytes after_name (58 ∷ white_bytes before_value (value_bytes value (white_bytes after (f []))))))
    ≡ length (mark_bytes name []) + length after_name + 1 + length before_value + value_length value + length after + length (f [])
member_long name after_name before_value value after f =
    omega (
      arith,
      long (mark_bytes name) (marks_split name) (white_bytes after_name (58 ∷ white_bytes before_value (value_bytes value (white_bytes after (f []))))),
      white_long after_name (58 ∷ white_bytes before_value (value_bytes value (white_bytes after (f [])))),
      white_long before_value (value_bytes value (white_bytes after (f []))),
      long (value_bytes value) (value_splits value) (white_bytes after (f [])),
      white_long after (f []),
    )

item_long : (before : List White) (value : Value) (after : List White) (f : List ℕ → List ℕ)
    → length (white_bytes before (value_bytes value (white_bytes after (f [])))) ≡ length before + value_length value + length after + length (f [])
item_long before value after f =
    omega (arith, white_long before (value_bytes value (white_bytes after (f []))), long (value_bytes value) (value_splits value) (white_bytes after (f [])), white_long after (f []))

mutual
  value_recorded : (value : Value) (stack : List Frame) (n : Notes) (place : ℕ) (rest : List ℕ) → Follows rest
      → recorded (Machine.before_value stack) n place (value_bytes value rest) ≡ recorded (Machine.after_value stack) (with_value value place n) (place + value_length value) rest
  value_recorded (literal null_literal) stack n place rest f =
      ap (λ m. recorded (Machine.after_value stack) m (suc (suc (suc (suc place)))) rest) (ended Kind.Null n place (suc (suc (suc (suc place)))) (length n.shapes + 1) (omega arith))
      ∙ ap (λ e. recorded (Machine.after_value stack) (notes (n.shapes ++ (shape (literal null_literal) (length n.shapes) place e n.name_from n.name_to ∷ [])) n.opened 0 0) e rest) (omega arith)
  value_recorded (literal true_literal) stack n place rest f =
      ap (λ m. recorded (Machine.after_value stack) m (suc (suc (suc (suc place)))) rest) (ended Kind.True n place (suc (suc (suc (suc place)))) (length n.shapes + 1) (omega arith))
      ∙ ap (λ e. recorded (Machine.after_value stack) (notes (n.shapes ++ (shape (literal true_literal) (length n.shapes) place e n.name_from n.name_to ∷ [])) n.opened 0 0) e rest) (omega arith)
  value_recorded (literal false_literal) stack n place rest f =
      ap (λ m. recorded (Machine.after_value stack) m (suc (suc (suc (suc (suc place))))) rest) (ended Kind.False n place (suc (suc (suc (suc (suc place))))) (length n.shapes + 1) (omega arith))
      ∙ ap (λ e. recorded (Machine.after_value stack) (notes (n.shapes ++ (shape (literal false_literal) (length n.shapes) place e n.name_from n.name_to ∷ [])) n.opened 0 0) e rest) (omega arith)
  value_recorded (number x) stack n place rest f =
      number_recorded x.negative x.whole x.fraction x.exponent stack rest f n place (place + value_length (number x)) (omega (arith, long (number_bytes x) (number_splits x) rest))
      ∙ ap (λ m. recorded (Machine.after_value stack) m (place + value_length (number x)) rest) (ended Kind.Number n place (place + value_length (number x)) (length n.shapes + 1) (omega arith))
  value_recorded (string marks) stack n place rest f =
      string_recorded marks stack (begin_value Kind.String place n) (suc place) (place + value_length (string marks)) rest (omega arith)
      ∙ ap (λ m. recorded (Machine.after_value stack) m (place + value_length (string marks)) rest) (ended Kind.String n place (place + value_length (string marks)) (length n.shapes + 1) (omega arith))
  value_recorded (array between) stack n place rest f = items_recorded between stack n place rest
  value_recorded (object between) stack n place rest f = members_recorded between stack n place rest

  items_recorded : (between : Items) (stack : List Frame) (n : Notes) (place : ℕ) (rest : List ℕ)
      → recorded (Machine.after_open_array stack) (begin_value Kind.Array place n) (suc place) (items_bytes between rest)
      ≡ recorded (Machine.after_value stack) (with_value (array between) place n) (place + value_length (array between)) rest
  items_recorded (no_items whites) stack n place rest =
      skip (Machine.after_open_array stack) (after_open_array_skips stack) whites (begin_value Kind.Array place n) (suc place) (93 ∷ rest)
      ∙ ap (λ next. recorded (Machine.after_value stack) (notes (n.shapes ++ (record { kind = Kind.Array; place = place; end = suc place; next = next; name_from = n.name_from; name_to = n.name_to } ∷ [])) n.opened 0 0) (suc (suc place + length whites)) rest) (omega arith)
      ∙ here _ _ rest (omega (arith, white_long whites (93 ∷ [])))
  items_recorded (items before value after more) stack n place rest =
      let s : Shape = record { kind = Kind.Array; place = place; end = suc place; next = suc (length n.shapes); name_from = n.name_from; name_to = n.name_to } in
      let shapes = n.shapes ++ (s ∷ []) in
      let inner = Machine.in_array ∷ stack in
      let opened = (length shapes - 1) ∷ n.opened in
      let x = white_bytes after (more_items_bytes more rest) in
      let start = suc place + length before in
      let firsts = value_shapes value (length shapes) start 0 0 in
      let end = start + value_length value + length after in
      let one : length shapes ≡ suc (length n.shapes) = omega (arith, length-append n.shapes (s ∷ [])) in
      skip (Machine.after_open_array stack) (after_open_array_skips stack) before (begin_value Kind.Array place n) (suc place) (value_bytes value x)
      ∙ enters_array value stack (begin_value Kind.Array place n) start x
      ∙ value_recorded value inner (notes shapes opened 0 0) start x (follows_white after _ (follows_more_items more rest))
      ∙ skip (Machine.after_value inner) (after_value_skips inner) after (notes (shapes ++ firsts) opened 0 0) (start + value_length value) (more_items_bytes more rest)
      ∙ more_items_recorded more stack (shapes ++ firsts) opened end rest
      ∙ ap (λ z. recorded (Machine.after_value stack) (close (notes z opened 0 0)) (end + length (more_items_bytes more [])) rest)
      (two (λ k. more_items_shapes more k end) shapes firsts (length shapes + node_count value) (appended shapes value (length shapes) start 0 0 0 refl))
      ∙ ap (λ k. recorded (Machine.after_value stack) (close (notes (shapes ++ items_shapes (items before value after more) k (suc place)) opened 0 0)) (end + length (more_items_bytes more [])) rest) one
      ∙ ap (λ z. recorded (Machine.after_value stack) z (end + length (more_items_bytes more [])) rest)
      (closed n.shapes s (items_shapes (items before value after more) (suc (length n.shapes)) (suc place)) n.opened (length n.shapes + node_count (array (items before value after more)))
      (omega (arith, count_items (items before value after more) (suc (length n.shapes)) (suc place) 1)))
      ∙ here _ _ rest (omega (arith, item_long before value after (more_items_bytes more)))

  members_recorded : (between : Members) (stack : List Frame) (n : Notes) (place : ℕ) (rest : List ℕ)
      → recorded (Machine.after_open_object stack) (begin_value Kind.Object place n) (suc place) (members_bytes between rest)
      ≡ recorded (Machine.after_value stack) (with_value (object between) place n) (place + value_length (object between)) rest
  members_recorded (no_members whites) stack n place rest =
      skip (Machine.after_open_object stack) (after_open_object_skips stack) whites (begin_value Kind.Object place n) (suc place) (125 ∷ rest)
      ∙ ap (λ next. recorded (Machine.after_value stack) (notes (n.shapes ++ (record { kind = Kind.Object; place = place; end = suc place; next = next; name_from = n.name_from; name_to = n.name_to } ∷ [])) n.opened 0 0) (suc (suc place + length whites)) rest) (omega arith)
      ∙ here _ _ rest (omega (arith, white_long whites (125 ∷ [])))
  members_recorded (members before name after_name before_value value after more) stack n place rest =
      let between = members before name after_name before_value value after more in
      let s : Shape = record { kind = Kind.Object; place = place; end = suc place; next = suc (length n.shapes); name_from = n.name_from; name_to = n.name_to } in
      let shapes = n.shapes ++ (s ∷ []) in
      let opened = (length shapes - 1) ∷ n.opened in
      let quote = suc place + length before in
      let start = value_place quote name after_name before_value in
      let firsts = value_shapes value (length shapes) start (suc quote) (quote + length (mark_bytes name [])) in
      let end = start + value_length value + length after in
      let one : length shapes ≡ suc (length n.shapes) = omega (arith, length-append n.shapes (s ∷ [])) in
      skip (Machine.after_open_object stack) (after_open_object_skips stack) before (begin_value Kind.Object place n) (suc place)
      (34 ∷ mark_bytes name (white_bytes after_name (58 ∷ white_bytes before_value (value_bytes value (white_bytes after (more_members_bytes more rest))))))
      ∙ member_recorded name after_name before_value value after stack (value_recorded value (Machine.in_object ∷ stack)) shapes opened quote (more_members_bytes more rest) (follows_more_members more rest)
      ∙ more_members_recorded more stack (shapes ++ firsts) opened end rest
      ∙ ap (λ z. recorded (Machine.after_value stack) (close (notes z opened 0 0)) (end + length (more_members_bytes more [])) rest)
      (two (λ k. more_members_shapes more k end) shapes firsts (length shapes + node_count value) (appended shapes value (length shapes) start (suc quote) (quote + length (mark_bytes name [])) 0 refl))
      ∙ ap (λ k. recorded (Machine.after_value stack) (close (notes (shapes ++ members_shapes between k (suc place)) opened 0 0)) (end + length (more_members_bytes more [])) rest) one
      ∙ ap (λ z. recorded (Machine.after_value stack) z (end + length (more_members_bytes more [])) rest)
      (closed n.shapes s (members_shapes between (suc (length n.shapes)) (suc place)) n.opened (length n.shapes + node_count (object between))
      (omega (arith, count_members between (suc (length n.shapes)) (suc place) 1)))
      ∙ here _ _ rest (omega (arith, white_long before (34 ∷ mark_bytes name (white_bytes after_name (58 ∷ white_bytes before_value (value_bytes value (white_bytes after (more_members_bytes more [])))))), member_long name after_name before_value value after (more_members_bytes more)))

  more_items_recorded : (more : MoreItems) (stack : List Frame) (shapes : List Shape) (opened : List ℕ) (place : ℕ) (rest : List ℕ)
      → recorded (Machine.after_value (Machine.in_array ∷ stack)) (notes shapes opened 0 0) place (more_items_bytes more rest)
      ≡ recorded (Machine.after_value stack) (with_more_items more place shapes opened) (place + length (more_items_bytes more [])) rest
  more_items_recorded last_item stack shapes opened place rest =
      ap (λ z. recorded (Machine.after_value stack) (close (notes z opened 0 0)) (suc place) rest) (nothing_after shapes)
      ∙ here _ _ rest (omega arith)
  more_items_recorded (next_item before value after more) stack shapes opened place rest =
      let x = white_bytes after (more_items_bytes more rest) in
      let start = suc place + length before in
      let firsts = value_shapes value (length shapes) start 0 0 in
      let end = start + value_length value + length after in
      skip (Machine.before_value (Machine.in_array ∷ stack)) (before_value_skips (Machine.in_array ∷ stack)) before (notes shapes opened 0 0) (suc place) (value_bytes value x)
      ∙ value_recorded value (Machine.in_array ∷ stack) (notes shapes opened 0 0) start x (follows_white after _ (follows_more_items more rest))
      ∙ skip (Machine.after_value (Machine.in_array ∷ stack)) (after_value_skips (Machine.in_array ∷ stack)) after (notes (shapes ++ firsts) opened 0 0) (start + value_length value) (more_items_bytes more rest)
      ∙ more_items_recorded more stack (shapes ++ firsts) opened end rest
      ∙ ap (λ z. recorded (Machine.after_value stack) (close (notes z opened 0 0)) (end + length (more_items_bytes more [])) rest)
      (two (λ k. more_items_shapes more k end) shapes firsts (length shapes + node_count value) (appended shapes value (length shapes) start 0 0 0 refl))
      ∙ here _ _ rest (omega (arith, item_long before value after (more_items_bytes more)))

  more_members_recorded : (more : MoreMembers) (stack : List Frame) (shapes : List Shape) (opened : List ℕ) (place : ℕ) (rest : List ℕ)
      → recorded (Machine.after_value (Machine.in_object ∷ stack)) (notes shapes opened 0 0) place (more_members_bytes more rest)
      ≡ recorded (Machine.after_value stack) (with_more_members more place shapes opened) (place + length (more_members_bytes more [])) rest
  more_members_recorded last_member stack shapes opened place rest =
      ap (λ z. recorded (Machine.after_value stack) (close (notes z opened 0 0)) (suc place) rest) (nothing_after shapes)
      ∙ here _ _ rest (omega arith)
  more_members_recorded (next_member before name after_name before_value value after more) stack shapes opened place rest =
      let quote = suc place + length before in
      let start = value_place quote name after_name before_value in
      let firsts = value_shapes value (length shapes) start (suc quote) (quote + length (mark_bytes name [])) in
      let end = start + value_length value + length after in
      skip (Machine.before_name (Machine.in_object ∷ stack)) (before_name_skips (Machine.in_object ∷ stack)) before (notes shapes opened 0 0) (suc place)
      (34 ∷ mark_bytes name (white_bytes after_name (58 ∷ white_bytes before_value (value_bytes value (white_bytes after (more_members_bytes more rest))))))
      ∙ member_recorded name after_name before_value value after stack (value_recorded value (Machine.in_object ∷ stack)) shapes opened quote (more_members_bytes more rest) (follows_more_members more rest)
      ∙ more_members_recorded more stack (shapes ++ firsts) opened end rest
      ∙ ap (λ z. recorded (Machine.after_value stack) (close (notes z opened 0 0)) (end + length (more_members_bytes more [])) rest)
      (two (λ k. more_members_shapes more k end) shapes firsts (length shapes + node_count value) (appended shapes value (length shapes) start (suc quote) (quote + length (mark_bytes name [])) 0 refl))
      ∙ here _ _ rest (omega (arith, white_long before (34 ∷ mark_bytes name (white_bytes after_name (58 ∷ white_bytes before_value (value_bytes value (white_bytes after (more_members_bytes more [])))))), member_long name after_name before_value value after (more_members_bytes more)))

-- What is noted of a whole text are its shapes.
pub text_recorded : (text : Text) → recorded Machine.start no_notes 0 (text_bytes text) ≡ notes (text_shapes text) [] 0 0
text_recorded text =
    let rest = white_bytes text.after [] in
    let all = notes (text_shapes text) [] 0 0 in
    skip (Machine.before_value []) (before_value_skips []) text.before no_notes 0 (value_bytes text.value rest)
    ∙ here (Machine.before_value []) no_notes (value_bytes text.value rest) (omega arith)
    ∙ value_recorded text.value [] no_notes (length text.before) rest (follows_white text.after [] tt)
    ∙ skip (Machine.after_value []) (after_value_skips []) text.after all (length text.before + value_length text.value) []
