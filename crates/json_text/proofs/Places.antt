-- The nodes of a text stand at their places, and their shapes at their numbers.
use Rattle.std.proofs.Common.{◌≡◌, ℕ, zero, suc, List, [], ◌∷◌, ◌++◌, Option, Some, None, refl, arith, ◌+◌, length, drop, slice_get, append_assoc, length-append}
use Rattle.json_text.specs.Syntax.{White, Mark, Value, literal, number, string, array, object, Items, no_items, items, MoreItems, last_item, next_item, Members, no_members, members, MoreMembers, last_member, next_member, Text}
use Rattle.json_text.specs.Grammar.{white_bytes, mark_bytes, value_bytes, items_bytes, more_items_bytes, members_bytes, more_members_bytes, text_bytes}
use Rattle.json_text.specs.Node.{Node, value_nodes, items_nodes, more_items_nodes, members_nodes, more_members_nodes, text_nodes, node_count, value_length, value_place}
use Rattle.json_text.specs.Placed.{IsPart, StandsAt, IsQuoted, IsNamed, IsPlaced}
use Rattle.json_text.specs.Recording.{Shape}
use Rattle.json_text.specs.Shapes.{value_shapes, items_shapes, more_items_shapes, members_shapes, more_members_shapes, text_shapes}
use Rattle.json_text.proofs.Lengths.{Splits, white_splits, marks_split, value_splits, count_value}
use mathlib.Core.Path.{subst, ap, sym, ◌∙◌}

drop_length : {A : Type 0} (xs ys : List A) → drop (length xs) (xs ++ ys) ≡ ys
drop_length [] ys = refl
drop_length (x ∷ xs) ys = drop_length xs ys

drop_nothing : {A : Type 0} (n : ℕ) → drop {A = A} n [] ≡ []
drop_nothing zero = refl
drop_nothing (suc n) = refl

drop_more : {A : Type 0} (n m : ℕ) (xs : List A) → drop (n + m) xs ≡ drop m (drop n xs)
drop_more zero m xs = let e : 0 + m ≡ m = omega arith in ap (λ k. drop k xs) e
drop_more (suc n) m [] = let e : suc n + m ≡ suc (n + m) = omega arith in ap (λ k. drop k []) e ∙ drop_nothing (suc (n + m)) ∙ sym (drop_nothing m)
drop_more (suc n) m (x ∷ xs) = let e : suc n + m ≡ suc (n + m) = omega arith in ap (λ k. drop k (x ∷ xs)) e ∙ drop_more n m xs

pub part_head : {A : Type 0} (all xs ys : List A) (node : ℕ) → IsPart all (xs ++ ys) node → IsPart all xs node
part_head all xs ys node p = record { before = p.before; after = ys ++ p.after; whole = p.whole ∙ ap (λ z. p.before ++ z) (append_assoc xs ys p.after); count = p.count }

pub part_tail : {A : Type 0} (all xs ys : List A) (node next : ℕ) → node + length xs ≡ next → IsPart all (xs ++ ys) node → IsPart all ys next
part_tail all xs ys node next e p = record {
  before = p.before ++ xs;
  after = p.after;
  whole = p.whole ∙ ap (λ z. p.before ++ z) (append_assoc xs ys p.after) ∙ sym (append_assoc p.before xs (ys ++ p.after));
  count = omega (arith, length-append p.before xs, p.count, e);
}

pub part_rest : {A : Type 0} (all : List A) (s : A) (xs : List A) (node : ℕ) → IsPart all (s ∷ xs) node → IsPart all xs (suc node)
part_rest all s xs node p = part_tail all (s ∷ []) xs node (suc node) (omega arith) p

module _ (all_nodes : List Node) (all : List Shape) (bytes : List ℕ) where
  -- A production stands behind the one before it.
  pub stands_behind : (f g : List ℕ → List ℕ) (place next : ℕ) → Splits f → place + length (f []) ≡ next → StandsAt bytes (λ rest. f (g rest)) place → StandsAt bytes g next
  stands_behind f g place next s e t = record {
    rest = t.rest;
    bytes = ap (λ k. drop k bytes) (sym e) ∙ drop_more place (length (f [])) bytes ∙ ap (drop (length (f []))) (t.bytes ∙ s (g t.rest)) ∙ drop_length (f []) (g t.rest);
  }

  pub stands_first : (f g : List ℕ → List ℕ) (place : ℕ) → StandsAt bytes (λ rest. f (g rest)) place → StandsAt bytes f place
  stands_first f g place t = record { rest = g t.rest; bytes = t.bytes }

  pub behind_byte : (b : ℕ) (g : List ℕ → List ℕ) (place next : ℕ) → suc place ≡ next → StandsAt bytes (λ rest. b ∷ g rest) place → StandsAt bytes g next
  behind_byte b g place next e t = stands_behind (λ rest. b ∷ rest) g place next (λ rest. refl) (omega (arith, e)) t

  white_length : (whites : List White) → length (white_bytes whites []) ≡ length whites
  white_length [] = refl
  white_length (w ∷ whites) = ap suc (white_length whites)

  pub behind_white : (whites : List White) (g : List ℕ → List ℕ) (place next : ℕ) → place + length whites ≡ next → StandsAt bytes (λ rest. white_bytes whites (g rest)) place → StandsAt bytes g next
  behind_white whites g place next e t = stands_behind (white_bytes whites) g place next (white_splits whites) (omega (arith, e, white_length whites)) t

  -- Each of the nodes, numbered from the first on.
  abbrev pub EachFrom : ℕ → List Node → Type 0
  EachFrom k [] = Unit {0}
  EachFrom k (node ∷ nodes) = IsPlaced all_nodes all bytes k node × EachFrom (suc k) nodes

  each_both : (k j : ℕ) (xs ys : List Node) → k + length xs ≡ j → EachFrom k xs → EachFrom j ys → EachFrom k (xs ++ ys)
  each_both k j [] ys e p q = subst (λ n. EachFrom n ys) (omega (arith, e)) q
  each_both k j (x ∷ xs) ys e p q = (p.0, each_both (suc k) j xs ys (omega (arith, e)) p.1 q)

  node_length : (value : Value) (place : ℕ) → length (value_nodes value place) ≡ node_count value
  node_length value place = sym (count_value value 0 0 0 0 place) ∙ count_value value 0 0 0 0 0

  shape_length : (value : Value) (node place from to : ℕ) → length (value_shapes value node place from to) ≡ node_count value
  shape_length value node place from to = count_value value node place from to 0

  -- A member's value stands behind its name.
  pub behind_name : (name : List Mark) (after_name before_value : List White) (g : List ℕ → List ℕ) (place : ℕ)
      → StandsAt bytes (λ rest. 34 ∷ mark_bytes name (white_bytes after_name (58 ∷ white_bytes before_value (g rest)))) place
      → StandsAt bytes g (value_place place name after_name before_value)
  behind_name name after_name before_value g place t =
      let marks = behind_byte 34 (λ rest. mark_bytes name (white_bytes after_name (58 ∷ white_bytes before_value (g rest)))) place (suc place) refl t in
      let white = stands_behind (mark_bytes name) (λ rest. white_bytes after_name (58 ∷ white_bytes before_value (g rest))) (suc place) (suc place + length (mark_bytes name [])) (marks_split name) refl marks in
      let colon = behind_white after_name (λ rest. 58 ∷ white_bytes before_value (g rest)) (suc place + length (mark_bytes name [])) (suc place + length (mark_bytes name []) + length after_name) refl white in
      let gap = behind_byte 58 (λ rest. white_bytes before_value (g rest)) (suc place + length (mark_bytes name []) + length after_name) (suc (suc place + length (mark_bytes name []) + length after_name)) refl colon in
      behind_white before_value g (suc (suc place + length (mark_bytes name []) + length after_name)) (value_place place name after_name before_value) (omega arith) gap

  pub quoted : (name : List Mark) (after_name before_value : List White) (g : List ℕ → List ℕ) (place : ℕ)
      → StandsAt bytes (λ rest. 34 ∷ mark_bytes name (white_bytes after_name (58 ∷ white_bytes before_value (g rest)))) place
      → IsQuoted bytes name place (place + length (mark_bytes name []))
  quoted name after_name before_value g place t =
      record { stands = record { rest = white_bytes after_name (58 ∷ white_bytes before_value (g t.rest)); bytes = t.bytes }; end = refl }

  mutual
    pub values_placed : (value : Value) (node place from to : ℕ) → IsPart all_nodes (value_nodes value place) node → IsPart all (value_shapes value node place from to) node → StandsAt bytes (value_bytes value) place
        → IsNamed bytes from to → EachFrom node (value_nodes value place)
    values_placed (literal word) node place from to w p t n = (record { name_from = from; name_to = to; within = w; part = p; stands = t; named = n }, tt)
    values_placed (number x) node place from to w p t n = (record { name_from = from; name_to = to; within = w; part = p; stands = t; named = n }, tt)
    values_placed (string marks) node place from to w p t n = (record { name_from = from; name_to = to; within = w; part = p; stands = t; named = n }, tt)
    values_placed (array between) node place from to w p t n = (
      record { name_from = from; name_to = to; within = w; part = p; stands = t; named = n },
      items_placed between (suc node) (suc place) (part_rest _ _ _ node w) (part_rest _ _ _ node p) (behind_byte 91 (items_bytes between) place (suc place) refl t),
    )
    values_placed (object between) node place from to w p t n = (
      record { name_from = from; name_to = to; within = w; part = p; stands = t; named = n },
      members_placed between (suc node) (suc place) (part_rest _ _ _ node w) (part_rest _ _ _ node p) (behind_byte 123 (members_bytes between) place (suc place) refl t),
    )

    items_placed : (between : Items) (node place : ℕ) → IsPart all_nodes (items_nodes between place) node → IsPart all (items_shapes between node place) node → StandsAt bytes (items_bytes between) place → EachFrom node (items_nodes between place)
    items_placed (no_items whites) node place w p t = tt
    items_placed (items before value after more) node place w p t =
        let start = place + length before in
        let end = start + value_length value + length after in
        let next = node + node_count value in
        let f = behind_white before (λ rest. value_bytes value (white_bytes after (more_items_bytes more rest))) place start refl t in
        let g = stands_behind (value_bytes value) (λ rest. white_bytes after (more_items_bytes more rest)) start (start + value_length value) (value_splits value) refl f in
        each_both node next (value_nodes value start) (more_items_nodes more end) (omega (arith, node_length value start))
        (values_placed value node start 0 0 (part_head _ (value_nodes value start) (more_items_nodes more end) node w) (part_head _ (value_shapes value node start 0 0) (more_items_shapes more next end) node p)
        (stands_first (value_bytes value) (λ rest. white_bytes after (more_items_bytes more rest)) start f) tt)
        (more_items_placed more next end (part_tail _ (value_nodes value start) (more_items_nodes more end) node next (omega (arith, node_length value start)) w)
        (part_tail _ (value_shapes value node start 0 0) (more_items_shapes more next end) node next (omega (arith, shape_length value node start 0 0)) p)
        (behind_white after (more_items_bytes more) (start + value_length value) end refl g))

    more_items_placed : (more : MoreItems) (node place : ℕ) → IsPart all_nodes (more_items_nodes more place) node → IsPart all (more_items_shapes more node place) node → StandsAt bytes (more_items_bytes more) place
        → EachFrom node (more_items_nodes more place)
    more_items_placed last_item node place w p t = tt
    more_items_placed (next_item before value after more) node place w p t =
        let start = suc place + length before in
        let end = start + value_length value + length after in
        let next = node + node_count value in
        let c = behind_byte 44 (λ rest. white_bytes before (value_bytes value (white_bytes after (more_items_bytes more rest)))) place (suc place) refl t in
        let f = behind_white before (λ rest. value_bytes value (white_bytes after (more_items_bytes more rest))) (suc place) start refl c in
        let g = stands_behind (value_bytes value) (λ rest. white_bytes after (more_items_bytes more rest)) start (start + value_length value) (value_splits value) refl f in
        each_both node next (value_nodes value start) (more_items_nodes more end) (omega (arith, node_length value start))
        (values_placed value node start 0 0 (part_head _ (value_nodes value start) (more_items_nodes more end) node w) (part_head _ (value_shapes value node start 0 0) (more_items_shapes more next end) node p)
        (stands_first (value_bytes value) (λ rest. white_bytes after (more_items_bytes more rest)) start f) tt)
        (more_items_placed more next end (part_tail _ (value_nodes value start) (more_items_nodes more end) node next (omega (arith, node_length value start)) w)
        (part_tail _ (value_shapes value node start 0 0) (more_items_shapes more next end) node next (omega (arith, shape_length value node start 0 0)) p)
        (behind_white after (more_items_bytes more) (start + value_length value) end refl g))

    members_placed : (between : Members) (node place : ℕ) → IsPart all_nodes (members_nodes between place) node → IsPart all (members_shapes between node place) node → StandsAt bytes (members_bytes between) place
        → EachFrom node (members_nodes between place)
    members_placed (no_members whites) node place w p t = tt
    members_placed (members before name after_name before_value value after more) node place w p t =
        let quote = place + length before in
        let start = value_place quote name after_name before_value in
        let end = start + value_length value + length after in
        let next = node + node_count value in
        let firsts = value_shapes value node start (suc quote) (quote + length (mark_bytes name [])) in
        let h : List ℕ → List ℕ = λ rest. value_bytes value (white_bytes after (more_members_bytes more rest)) in
        let q = behind_white before (λ rest. 34 ∷ mark_bytes name (white_bytes after_name (58 ∷ white_bytes before_value (h rest)))) place quote refl t in
        let f = behind_name name after_name before_value h quote q in
        let g = stands_behind (value_bytes value) (λ rest. white_bytes after (more_members_bytes more rest)) start (start + value_length value) (value_splits value) refl f in
        each_both node next (value_nodes value start) (more_members_nodes more end) (omega (arith, node_length value start))
        (values_placed value node start (suc quote) (quote + length (mark_bytes name [])) (part_head _ (value_nodes value start) (more_members_nodes more end) node w) (part_head _ firsts (more_members_shapes more next end) node p)
        (stands_first (value_bytes value) (λ rest. white_bytes after (more_members_bytes more rest)) start f) (name, quoted name after_name before_value h quote q))
        (more_members_placed more next end (part_tail _ (value_nodes value start) (more_members_nodes more end) node next (omega (arith, node_length value start)) w)
        (part_tail _ firsts (more_members_shapes more next end) node next (omega (arith, shape_length value node start (suc quote) (quote + length (mark_bytes name [])))) p)
        (behind_white after (more_members_bytes more) (start + value_length value) end refl g))

    more_members_placed : (more : MoreMembers) (node place : ℕ) → IsPart all_nodes (more_members_nodes more place) node → IsPart all (more_members_shapes more node place) node → StandsAt bytes (more_members_bytes more) place
        → EachFrom node (more_members_nodes more place)
    more_members_placed last_member node place w p t = tt
    more_members_placed (next_member before name after_name before_value value after more) node place w p t =
        let quote = suc place + length before in
        let start = value_place quote name after_name before_value in
        let end = start + value_length value + length after in
        let next = node + node_count value in
        let firsts = value_shapes value node start (suc quote) (quote + length (mark_bytes name [])) in
        let h : List ℕ → List ℕ = λ rest. value_bytes value (white_bytes after (more_members_bytes more rest)) in
        let c = behind_byte 44 (λ rest. white_bytes before (34 ∷ mark_bytes name (white_bytes after_name (58 ∷ white_bytes before_value (h rest))))) place (suc place) refl t in
        let q = behind_white before (λ rest. 34 ∷ mark_bytes name (white_bytes after_name (58 ∷ white_bytes before_value (h rest)))) (suc place) quote refl c in
        let f = behind_name name after_name before_value h quote q in
        let g = stands_behind (value_bytes value) (λ rest. white_bytes after (more_members_bytes more rest)) start (start + value_length value) (value_splits value) refl f in
        each_both node next (value_nodes value start) (more_members_nodes more end) (omega (arith, node_length value start))
        (values_placed value node start (suc quote) (quote + length (mark_bytes name [])) (part_head _ (value_nodes value start) (more_members_nodes more end) node w) (part_head _ firsts (more_members_shapes more next end) node p)
        (stands_first (value_bytes value) (λ rest. white_bytes after (more_members_bytes more rest)) start f) (name, quoted name after_name before_value h quote q))
        (more_members_placed more next end (part_tail _ (value_nodes value start) (more_members_nodes more end) node next (omega (arith, node_length value start)) w)
        (part_tail _ firsts (more_members_shapes more next end) node next (omega (arith, shape_length value node start (suc quote) (quote + length (mark_bytes name [])))) p)
        (behind_white after (more_members_bytes more) (start + value_length value) end refl g))

  placed_at : (k : ℕ) (nodes : List Node) (i : ℕ) (node : Node) → EachFrom k nodes → slice_get nodes i ≡ Some node → IsPlaced all_nodes all bytes (k + i) node
  placed_at k [] i node p e = absurd (grind (arith, e))
  placed_at k (x ∷ nodes) zero node p e = subst (λ n. IsPlaced all_nodes all bytes n node) (omega arith) (subst (IsPlaced all_nodes all bytes k) (some_same x node e) p.0)
    where
      some_or : Option Node → Node → Node
      some_or None d = d
      some_or (Some y) d = y

      some_same : (x node : Node) → Some x ≡ Some node → x ≡ node
      some_same x node e = ap (λ o. some_or o x) e
  placed_at k (x ∷ nodes) (suc i) node p e = subst (λ n. IsPlaced all_nodes all bytes n node) (omega arith) (placed_at (suc k) nodes i node p.1 e)

nothing_behind : {A : Type 0} (xs : List A) → xs ≡ xs ++ []
nothing_behind [] = refl
nothing_behind (x ∷ xs) = ap (λ z. x ∷ z) (nothing_behind xs)

text_placed : (text : Text) → EachFrom (text_nodes text) (text_shapes text) (text_bytes text) 0 (text_nodes text)
text_placed text =
    values_placed (text_nodes text) (text_shapes text) (text_bytes text) text.value 0 (length text.before) 0 0
    (record { before = []; after = []; whole = nothing_behind (text_nodes text); count = refl })
    (record { before = []; after = []; whole = nothing_behind (text_shapes text); count = refl })
    (stands_first (text_nodes text) (text_shapes text) (text_bytes text) (value_bytes text.value) (white_bytes text.after) (length text.before)
    (behind_white (text_nodes text) (text_shapes text) (text_bytes text) text.before (λ rest. value_bytes text.value (white_bytes text.after rest)) 0 (length text.before) (omega arith) (record { rest = []; bytes = refl })))
    tt

-- A node of a text stands at its place.
pub node_placed : (text : Text) (i : ℕ) (node : Node) → slice_get (text_nodes text) i ≡ Some node → IsPlaced (text_nodes text) (text_shapes text) (text_bytes text) i node
node_placed text i node e =
    subst (λ n. IsPlaced (text_nodes text) (text_shapes text) (text_bytes text) n node) (omega arith)
    (placed_at (text_nodes text) (text_shapes text) (text_bytes text) 0 (text_nodes text) i node (text_placed text) e)
