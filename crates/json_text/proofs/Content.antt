-- What a scanned text tells of its nodes.
use Rattle.std.proofs.Common.{◌≡◌, ◌≢◌, ℕ, suc, List, [], ◌∷◌, Option, Some, None, inl, inr, refl, arith, ◌+◌, ◌-◌, ◌≤◌, ◌<◌, length, map, get_or, slice_get, slice_range}
use Rattle.std.proofs.lemmas.Option.{slice_get-get_or, slice_get_within}
use Rattle.json_text.specs.Content.{AreRowsOf, HasNumberAt, HasName, HasStringAt, HasText, text_or}
use Rattle.json_text.specs.Grammar.{IsJsonWithin, text_bytes, number_bytes, value_bytes}
use Rattle.json_text.specs.Node.{Node, MemberNode, IsNode, HasNode, HasArray, HasObject, HasString, HasNumber, IsFirstNamed, array_items, object_members, kind_of, text_nodes, value_nodes}
use Rattle.json_text.specs.StringText.{string_text}
use Rattle.json_text.specs.Placed.{IsPlaced, IsQuoted, StandsAt}
use Rattle.json_text.specs.Progress.{shape_of}
use Rattle.json_text.specs.Syntax.{Mark, Number, Value, literal, number, string, array, object, Items, Members, Text}
use Rattle.json_text.specs.Unescaping.{ReadsAs}
use Rattle.json_text.specs.Walk.{next_of, walk, Rises, HasNameAt, AreMembers}
use Rattle.json_text.specs.declared.kind.JsonKind.TheVariants as Kind
use Rattle.json_text.specs.declared.row.Row.{Row}
use Rattle.json_text.proofs.Kept.{node_at, node_count_of, name_there, placed_in, row_shape, same_row, token_end, word_there}
use Rattle.json_text.proofs.Quoted.{NumberFacts, number_facts, quoted_facts}
use Rattle.json_text.proofs.Walks.{members_are, next_is, next_within, rows_rise, walk_items}
use mathlib.Core.Path.{subst, ap, sym, ◌∙◌}

pub read_row : (rows : List Row) (k : ℕ) (row : Row) → k < length rows → row ≡ get_or rows k row → slice_get rows k ≡ Some row
read_row rows k row r e = slice_get-get_or rows k row r ∙ ap Some (sym e)

module _ (bytes : List ℕ) (rows : List Row) (are : AreRowsOf bytes rows) where
  pub node_within : (k : ℕ) → HasNode bytes k → k < length rows
  node_within k (node, (text, e, is)) = omega (arith, slice_get_within (text_nodes text) k node is, node_count_of rows bytes text are e)

  pub placed : (k : ℕ) (node : Node) (is : IsNode bytes k node) → IsPlaced (text_nodes is.0) (map shape_of rows) bytes k node
  placed k node is = placed_in rows bytes is.0 k node are is.1 is.2

  pub kind_there : (k : ℕ) (node : Node) (row : Row) → IsNode bytes k node → slice_get rows k ≡ Some row → row.kind ≡ kind_of node.value
  kind_there k node row is e = ap (λ s. s.kind) (row_shape (text_nodes is.0) rows bytes k node row (placed k node is) e)

  pub place_there : (k : ℕ) (node : Node) (row : Row) → IsNode bytes k node → slice_get rows k ≡ Some row → row.place ≡ node.place
  place_there k node row is e = ap (λ s. s.place) (row_shape (text_nodes is.0) rows bytes k node row (placed k node is) e)

  pub rise : (k : ℕ) → HasNode bytes k → Rises rows
  rise k (node, (text, e, is)) = rows_rise rows bytes text are e

  pub next_bounds : (k : ℕ) (row : Row) → HasNode bytes k → slice_get rows k ≡ Some row → (k < row.next) × (row.next ≤ length rows)
  next_bounds k row (node, (text, e, is)) f =
      let r = node_within k (node, (text, e, is)) in
      let next : next_of rows k ≡ row.next = next_is rows k row f in
      (omega (arith, rows_rise rows bytes text are e k r, next), omega (arith, next_within rows bytes text k are e r, next))

  pub array_node : (k : ℕ) → HasArray bytes k → HasNode bytes k
  array_node k (place, between, is) = (record { place = place; value = array between }, is)

  pub object_node : (k : ℕ) → HasObject bytes k → HasNode bytes k
  object_node k (place, between, is) = (record { place = place; value = object between }, is)

  pub string_node : (k : ℕ) → HasString bytes k → HasNode bytes k
  string_node k (place, marks, is) = (record { place = place; value = string marks }, is)

  pub number_node : (k : ℕ) → HasNumber bytes k → HasNode bytes k
  number_node k (place, n, is) = (record { place = place; value = number n }, is)

  -- The items of an array.
  pub items_there : (k place : ℕ) (between : Items) (row : Row) → IsNode bytes k (record { place = place; value = array between }) → slice_get rows k ≡ Some row
      → walk rows (row.next - (k + 1)) (k + 1) row.next ≡ map (λ item. item.number) (array_items between k place)
  items_there k place between row is e =
      let p = placed k (record { place = place; value = array between }) is in
      let one : k + 1 ≡ suc k = omega arith in
      ap (λ n. walk rows (row.next - (k + 1)) n row.next) one
      ∙ walk_items (text_nodes is.0) rows bytes between k place p.name_from p.name_to (row.next - (k + 1)) row.next p.part (next_is rows k row e) (omega arith)

  -- The members of an object.
  pub members_there : (k place : ℕ) (between : Members) (row : Row) → IsNode bytes k (record { place = place; value = object between }) → slice_get rows k ≡ Some row
      → AreMembers rows bytes (object_members between k place) (k + 1) row.next
  members_there k place between row is e =
      let p = placed k (record { place = place; value = object between }) is in
      subst (λ n. AreMembers rows bytes (object_members between k place) n row.next) (omega arith)
      (members_are (text_nodes is.0) rows bytes between k place p.name_from p.name_to row.next p.part p.stands (next_is rows k row e))

  -- A string stands where its row says.
  pub string_there : (k place : ℕ) (marks : List Mark) (row : Row) → IsNode bytes k (record { place = place; value = string marks }) → slice_get rows k ≡ Some row
      → IsQuoted bytes marks row.place (row.end - 1)
  string_there k place marks row is e =
      let p = placed k (record { place = place; value = string marks }) is in
      let s = row_shape (text_nodes is.0) rows bytes k (record { place = place; value = string marks }) row p e in
      let a : row.place ≡ place = ap (λ s. s.place) s in
      let b : row.end ≡ token_end (string marks) place = ap (λ s. s.end) s in
      record { stands = subst (StandsAt bytes (value_bytes (string marks))) (sym a) p.stands; end = omega (arith, a, b) }

pub copy_there : (bytes : List ℕ) (rows : List Row) (k : ℕ) (row : Row) → AreRowsOf bytes rows → IsJsonWithin 64 bytes → k < length rows → slice_get rows k ≡ Some row
    → row.kind ≡ Kind.String → HasStringAt bytes row.place (row.end - 1)
copy_there bytes rows k row are json r e w =
    let n = node_at rows bytes json.0 k are json.1 r in word_there (text_nodes json.0) rows bytes k n.node row n.placed e w

pub name_copy_there : (bytes : List ℕ) (rows : List Row) (k : ℕ) (row : Row) → AreRowsOf bytes rows → IsJsonWithin 64 bytes → k < length rows → slice_get rows k ≡ Some row
    → 0 < row.name_from → HasStringAt bytes (row.name_from - 1) row.name_to
name_copy_there bytes rows k row are json r e w =
    let n = node_at rows bytes json.0 k are json.1 r in name_there (text_nodes json.0) rows bytes k n.node row n.placed e w

-- A string reads as its marks do.
pub reads : (bytes : List ℕ) (marks : List Mark) (place last : ℕ) (text : List ℕ) → IsQuoted bytes marks place last
    → ReadsAs (slice_range bytes (place + 1) last) text → text ≡ string_text marks
reads bytes marks place last text q r = r marks (quoted_facts bytes marks place last q).raw

nodes_first : (value : Value) (place : ℕ) → slice_get (value_nodes value place) 0 ≡ Some (record { place = place; value = value })
nodes_first (literal word) place = refl
nodes_first (number n) place = refl
nodes_first (string marks) place = refl
nodes_first (array between) place = refl
nodes_first (object between) place = refl

pub root_node : (bytes : List ℕ) (text : Text) → text_bytes text ≡ bytes → IsNode bytes 0 (record { place = length text.before; value = text.value })
root_node bytes text e = (text, e, nodes_first text.value (length text.before))

-- A number stands where its row says.
pub number_there : (bytes : List ℕ) (rows : List Row) (are : AreRowsOf bytes rows) (k place : ℕ) (n : Number) (row : Row) → IsNode bytes k (record { place = place; value = number n }) → slice_get rows k ≡ Some row
    → NumberFacts bytes n row.place row.end
number_there bytes rows are k place n row is e =
    let p = placed bytes rows are k (record { place = place; value = number n }) is in
    let s = row_shape (text_nodes is.0) rows bytes k (record { place = place; value = number n }) row p e in
    let a : row.place ≡ place = ap (λ s. s.place) s in
    let b : row.end ≡ token_end (number n) place = ap (λ s. s.end) s in
    number_facts bytes n row.place row.end (subst (StandsAt bytes (number_bytes n)) (sym a) p.stands) (omega (arith, a, b))

-- What is left of a search for a name: the members from a node on.
pub record IsSearching (rows : List Row) (bytes name : List ℕ) (first child last : ℕ) : Type 0 where
  pub order : first ≤ child
  pub left : (whole : List MemberNode) → AreMembers rows bytes whole first last
      → (rest : List MemberNode) × AreMembers rows bytes rest child last × ((found : Option ℕ) → IsFirstNamed rest name found → IsFirstNamed whole name found)

pub search_starts : (rows : List Row) (bytes name : List ℕ) (first last : ℕ) → IsSearching rows bytes name first first last
search_starts rows bytes name first last = record { order = omega arith; left = λ whole m. (whole, m, λ found f. f) }

-- Where a node is left, a member is.
pub record IsNext (rows : List Row) (bytes : List ℕ) (rest : List MemberNode) (child last : ℕ) : Type 0 where
  pub member : MemberNode
  pub more : List MemberNode
  pub is : rest ≡ member ∷ more
  pub number : member.number ≡ child
  pub named : HasNameAt rows bytes child member.name
  pub members : AreMembers rows bytes more (next_of rows child) last

pub next_member_of : (rows : List Row) (bytes : List ℕ) (rest : List MemberNode) (child last : ℕ) → child < last → AreMembers rows bytes rest child last → IsNext rows bytes rest child last
next_member_of rows bytes [] child last r m = absurd (omega (arith, r, m))
next_member_of rows bytes (member ∷ more) child last r m = record { member = member; more = more; is = refl; number = m.0; named = m.2; members = m.3 }

-- the name is that of the row, whatever it was read from
pub is_name : (rows : List Row) (bytes : List ℕ) (child : ℕ) (row : Row) (name read : List ℕ) → HasNameAt rows bytes child name → slice_get rows child ≡ Some row
    → (0 < row.name_from → ReadsAs (slice_range bytes (row.name_from - 1 + 1) row.name_to) read) → read ≡ name
is_name rows bytes child row name read h e r =
    let same : h.row ≡ row = same_row (slice_get rows child) h.row row h.is e in
    let from : 0 < row.name_from = subst (λ x. 0 < x.name_from) same h.some in
    reads bytes h.marks (row.name_from - 1) row.name_to read (subst (λ x. IsQuoted bytes h.marks (x.name_from - 1) x.name_to) same h.quoted) (r from) ∙ h.text

pub name_stands : (rows : List Row) (bytes : List ℕ) (child : ℕ) (row : Row) (name : List ℕ) → HasNameAt rows bytes child name → slice_get rows child ≡ Some row
    → (0 < row.name_from) × HasStringAt bytes (row.name_from - 1) row.name_to
name_stands rows bytes child row name h e =
    let same : h.row ≡ row = same_row (slice_get rows child) h.row row h.is e in
    (subst (λ x. 0 < x.name_from) same h.some, (h.marks, subst (λ x. IsQuoted bytes h.marks (x.name_from - 1) x.name_to) same h.quoted))

-- The name isn't that of the member: the search goes on behind it.
pub searches_on : (rows : List Row) (bytes name : List ℕ) (first child last next : ℕ) → child < last → child < next → next ≡ next_of rows child → IsSearching rows bytes name first child last
    → ((member : List ℕ) → HasNameAt rows bytes child member → member ≢ name) → IsSearching rows bytes name first next last
searches_on rows bytes name first child last next r up e s other = record {
  order = omega (arith, s.order, up);
  left = λ whole m.
      let l = s.left whole m in
      let n = next_member_of rows bytes l.0 child last r l.1 in (
        n.more,
        subst (λ k. AreMembers rows bytes n.more k last) (sym e) n.members,
        λ found f. l.2 found (subst (λ z. IsFirstNamed z name found) (sym n.is) (inr (other n.member.name n.named, f))),
      );
}

pub found_there : (rows : List Row) (bytes name : List ℕ) (first child last : ℕ) → child < last → IsSearching rows bytes name first child last
    → ((member : List ℕ) → HasNameAt rows bytes child member → member ≡ name) → (whole : List MemberNode) → AreMembers rows bytes whole first last → IsFirstNamed whole name (Some child)
found_there rows bytes name first child last r s same whole m =
    let l = s.left whole m in
    let n = next_member_of rows bytes l.0 child last r l.1 in
    l.2 (Some child) (subst (λ z. IsFirstNamed z name (Some child)) (sym n.is) (inl (same n.member.name n.named, ap Some (sym n.number))))

pub found_nowhere : (rows : List Row) (bytes name : List ℕ) (first child last : ℕ) → last ≤ child → IsSearching rows bytes name first child last
    → (whole : List MemberNode) → AreMembers rows bytes whole first last → IsFirstNamed whole name None
found_nowhere rows bytes name first child last r s whole m = let l = s.left whole m in l.2 None (ends l.0 l.1)
  where
    ends : (rest : List MemberNode) → AreMembers rows bytes rest child last → IsFirstNamed rest name None
    ends [] m = refl
    ends (member ∷ rest) m = absurd (omega (arith, r, m.1))

-- The next member's name stands there.
pub next_name : (rows : List Row) (bytes name : List ℕ) (first child last : ℕ) → child < last → IsSearching rows bytes name first child last
    → ((whole : List MemberNode) × AreMembers rows bytes whole first last) → (row : Row) → slice_get rows child ≡ Some row → (0 < row.name_from) × HasStringAt bytes (row.name_from - 1) row.name_to
next_name rows bytes name first child last r s has row e =
    let l = s.left has.0 has.1 in
    let n = next_member_of rows bytes l.0 child last r l.1 in
    name_stands rows bytes child row n.member.name n.named e

pub name_reads : (bytes : List ℕ) (row : Row) (lent copy : Option (List ℕ)) (read : List ℕ) → read ≡ text_or bytes (row.name_from - 1) row.name_to lent → lent ≡ copy → HasName bytes row copy
    → 0 < row.name_from → ReadsAs (slice_range bytes (row.name_from - 1 + 1) row.name_to) read
name_reads bytes row lent copy read e f h r =
    subst (ReadsAs (slice_range bytes (row.name_from - 1 + 1) row.name_to)) (sym (e ∙ ap (text_or bytes (row.name_from - 1) row.name_to) f)) (h r)

pub text_reads : (bytes : List ℕ) (row : Row) (lent copy : Option (List ℕ)) (read : List ℕ) → read ≡ text_or bytes row.place (row.end - 1) lent → lent ≡ copy → HasText bytes row copy
    → row.kind ≡ Kind.String → ReadsAs (slice_range bytes (row.place + 1) (row.end - 1)) read
text_reads bytes row lent copy read e f h r =
    subst (ReadsAs (slice_range bytes (row.place + 1) (row.end - 1))) (sym (e ∙ ap (text_or bytes row.place (row.end - 1)) f)) (h r)

-- the row that is read past the end
abbrev pub no_row : Row
no_row = record { kind = Kind.Null; place = 0; end = 0; next = 0; name_from = 0; name_to = 0 }

pub has_number_at : (bytes : List ℕ) (rows : List Row) (are : AreRowsOf bytes rows) (k place : ℕ) (n : Number) (row : Row) → IsNode bytes k (record { place = place; value = number n }) → slice_get rows k ≡ Some row
    → HasNumberAt bytes row.place row.end
has_number_at bytes rows are k place n row is e =
    let p = placed bytes rows are k (record { place = place; value = number n }) is in
    let s = row_shape (text_nodes is.0) rows bytes k (record { place = place; value = number n }) row p e in
    let a : row.place ≡ place = ap (λ s. s.place) s in
    let b : row.end ≡ token_end (number n) place = ap (λ s. s.end) s in
    (n, subst (StandsAt bytes (number_bytes n)) (sym a) p.stands, omega (arith, a, b))
