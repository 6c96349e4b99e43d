-- What the rows of a text tell of its nodes.
use Rattle.std.proofs.Common.{◌≡◌, ℕ, zero, suc, Bool, true, false, List, [], ◌∷◌, ◌++◌, Option, Some, None, refl, arith, ◌+◌, ◌-◌, ◌≤◌, ◌<◌, length, map, get_or, slice_get, length-append, nat_lt}
use Rattle.std.proofs.lemmas.Option.{slice_get-map}
use Rattle.std.specs.Option.{option_map}
use Rattle.json_text.specs.Content.{AreRowsOf, AreCopied, HasName, HasStringAt, HasText}
use Rattle.json_text.specs.Grammar.{value_bytes, text_bytes}
use Rattle.json_text.specs.Node.{Node, kind_of, value_length, text_nodes}
use Rattle.json_text.specs.Placed.{IsPart, IsPlaced, IsNamed, StandsAt}
use Rattle.json_text.specs.Progress.{shape_of}
use Rattle.json_text.specs.Recording.{Shape}
use Rattle.json_text.specs.Shapes.{shape, value_shapes, items_shapes, members_shapes, text_shapes}
use Rattle.json_text.specs.Syntax.{null_literal, true_literal, false_literal, Value, literal, number, string, array, object, Text}
use Rattle.json_text.specs.declared.kind.JsonKind.{JsonKind}
use Rattle.json_text.specs.declared.kind.JsonKind.TheVariants as Kind
use Rattle.json_text.specs.declared.row.Row.{Row}
use Rattle.json_text.proofs.Lengths.{count_value}
use Rattle.json_text.proofs.Nested.{notes, text_recorded}
use Rattle.json_text.proofs.Places.{node_placed}
use Rattle.json_text.specs.Machine
use Rattle.json_text.specs.Recording.{no_notes, recorded}
use mathlib.Core.Path.{subst, ap, sym, ◌∙◌}

abbrev pub token_end : Value → ℕ → ℕ
token_end (literal word) place = place + value_length (literal word)
token_end (number n) place = place + value_length (number n)
token_end (string marks) place = place + value_length (string marks)
token_end (array between) place = suc place
token_end (object between) place = suc place

abbrev pub inner_shapes : Value → ℕ → ℕ → List Shape
inner_shapes (literal word) node place = []
inner_shapes (number n) node place = []
inner_shapes (string marks) node place = []
inner_shapes (array between) node place = items_shapes between (suc node) (suc place)
inner_shapes (object between) node place = members_shapes between (suc node) (suc place)

pub value_first : (value : Value) (node place from to : ℕ)
    → value_shapes value node place from to ≡ shape value node place (token_end value place) from to ∷ inner_shapes value node place
value_first (literal word) node place from to = refl
value_first (number n) node place from to = refl
value_first (string marks) node place from to = refl
value_first (array between) node place from to = refl
value_first (object between) node place from to = refl

get_seam : {A : Type 0} (before : List A) (x : A) (after : List A) → slice_get (before ++ (x ∷ after)) (length before) ≡ Some x
get_seam [] x after = refl
get_seam (y ∷ before) x after = get_seam before x after

pub part_first : {A : Type 0} (all : List A) (x : A) (xs : List A) (node : ℕ) → IsPart all (x ∷ xs) node → slice_get all node ≡ Some x
part_first all x xs node p = ap (slice_get all) (sym p.count) ∙ ap (λ z. slice_get z (length p.before)) p.whole ∙ get_seam p.before x (xs ++ p.after)

pub part_length : {A : Type 0} (all xs : List A) (node : ℕ) → IsPart all xs node → node + length xs ≤ length all
part_length all xs node p =
    let whole : length all ≡ length p.before + length (xs ++ p.after) = ap length p.whole ∙ length-append p.before (xs ++ p.after) in
    omega (arith, whole, length-append xs p.after, p.count)

abbrev or_shape : Option Shape → Shape → Shape
or_shape None d = d
or_shape (Some s) d = s

-- The row of a node has its shape.
pub row_shape : (nodes : List Node) (rows : List Row) (bytes : List ℕ) (k : ℕ) (node : Node) (row : Row) → (p : IsPlaced nodes (map shape_of rows) bytes k node) → slice_get rows k ≡ Some row
    → shape_of row ≡ shape node.value k node.place (token_end node.value node.place) p.name_from p.name_to
row_shape nodes rows bytes k node row p e =
    let first = part_first (map shape_of rows) _ _ k (subst (λ z. IsPart (map shape_of rows) z k) (value_first node.value k node.place p.name_from p.name_to) p.part) in
    let here : slice_get (map shape_of rows) k ≡ Some (shape_of row) = slice_get-map shape_of rows k ∙ ap (λ o. option_map shape_of o) e in
    ap (λ o. or_shape o (shape_of row)) (sym here ∙ first)

length_map : {A B : Type 0} (f : A → B) (xs : List A) → length (map f xs) ≡ length xs
length_map f [] = refl
length_map f (x ∷ xs) = ap suc (length_map f xs)

pub some_at : {A : Type 0} (xs : List A) (k : ℕ) → k < length xs → (x : A) × (slice_get xs k ≡ Some x)
some_at [] k r = absurd (omega (arith, r))
some_at (x ∷ xs) zero r = (x, refl)
some_at (x ∷ xs) (suc k) r = some_at xs k (omega (arith, r))

-- the node of a text that has the number, with its place
pub record NodeAt (rows : List Row) (bytes : List ℕ) (text : Text) (k : ℕ) : Type 0 where
  pub node : Node
  pub is : slice_get (text_nodes text) k ≡ Some node
  pub placed : IsPlaced (text_nodes text) (map shape_of rows) bytes k node

pub placed_in : (rows : List Row) (bytes : List ℕ) (text : Text) (k : ℕ) (node : Node) → AreRowsOf bytes rows → text_bytes text ≡ bytes
    → slice_get (text_nodes text) k ≡ Some node → IsPlaced (text_nodes text) (map shape_of rows) bytes k node
placed_in rows bytes text k node are e is =
    subst (λ z. IsPlaced (text_nodes text) z bytes k node) (sym (are text e)) (subst (λ z. IsPlaced (text_nodes text) (text_shapes text) z k node) e (node_placed text k node is))

pub node_count_of : (rows : List Row) (bytes : List ℕ) (text : Text) → AreRowsOf bytes rows → text_bytes text ≡ bytes → length rows ≡ length (text_nodes text)
node_count_of rows bytes text are e =
    sym (length_map shape_of rows) ∙ ap length (are text e) ∙ count_value text.value 0 (length text.before) 0 0 (length text.before)

pub node_at : (rows : List Row) (bytes : List ℕ) (text : Text) (k : ℕ) → AreRowsOf bytes rows → text_bytes text ≡ bytes → k < length rows → NodeAt rows bytes text k
node_at rows bytes text k are e r =
    let some = some_at (text_nodes text) k (omega (arith, r, node_count_of rows bytes text are e)) in
    record { node = some.0; is = some.1; placed = placed_in rows bytes text k some.0 are e some.1 }

abbrev is_string : JsonKind → Bool
is_string Kind.String = true
is_string _ = false

other : {A : Type 0} → false ≡ true → A
other e = absurd (grind (arith, e))

-- A string stands where its node does.
string_there : (bytes : List ℕ) (value : Value) (place last : ℕ) → is_string (kind_of value) ≡ true → last ≡ token_end value place - 1 → StandsAt bytes (value_bytes value) place → HasStringAt bytes place last
string_there bytes (string marks) place last w e t = (marks, record { stands = t; end = omega (arith, e) })
string_there bytes (literal null_literal) place last w e t = other w
string_there bytes (literal true_literal) place last w e t = other w
string_there bytes (literal false_literal) place last w e t = other w
string_there bytes (number n) place last w e t = other w
string_there bytes (array between) place last w e t = other w
string_there bytes (object between) place last w e t = other w

pub word_there : (nodes : List Node) (rows : List Row) (bytes : List ℕ) (k : ℕ) (node : Node) (row : Row) → IsPlaced nodes (map shape_of rows) bytes k node → slice_get rows k ≡ Some row
    → row.kind ≡ Kind.String → HasStringAt bytes row.place (row.end - 1)
word_there nodes rows bytes k node row p e w =
    let s = row_shape nodes rows bytes k node row p e in
    subst (λ n. HasStringAt bytes n (row.end - 1)) (sym (ap (λ x. x.place) s))
    (string_there bytes node.value node.place (row.end - 1) (ap (λ x. is_string x.kind) (sym s) ∙ ap is_string w) (ap (λ x. x.end - 1) s) p.stands)

named_there : (bytes : List ℕ) (from to : ℕ) → IsNamed bytes from to → 0 < from → HasStringAt bytes (from - 1) to
named_there bytes zero to n r = absurd (omega (arith, r))
named_there bytes (suc quote) to n r = let e : quote ≡ suc quote - 1 = omega arith in subst (λ k. HasStringAt bytes k to) e n

pub name_there : (nodes : List Node) (rows : List Row) (bytes : List ℕ) (k : ℕ) (node : Node) (row : Row) → IsPlaced nodes (map shape_of rows) bytes k node → slice_get rows k ≡ Some row
    → 0 < row.name_from → HasStringAt bytes (row.name_from - 1) row.name_to
name_there nodes rows bytes k node row p e r =
    let s = row_shape nodes rows bytes k node row p e in
    let from : row.name_from ≡ p.name_from = ap (λ x. x.name_from) s in
    let to : row.name_to ≡ p.name_to = ap (λ x. x.name_to) s in
    subst (λ n. HasStringAt bytes (n - 1) row.name_to) (sym from)
    (subst (λ n. HasStringAt bytes (p.name_from - 1) n) (sym to) (named_there bytes p.name_from p.name_to p.named (omega (arith, r, from))))

-- One more row has its copies.
get_before : (xs : List (Option (List ℕ))) (x : Option (List ℕ)) (k : ℕ) → k < length xs → get_or (xs ++ (x ∷ [])) k None ≡ get_or xs k None
get_before [] x k r = absurd (omega (arith, r))
get_before (y ∷ xs) x zero r = refl
get_before (y ∷ xs) x (suc k) r = get_before xs x k (omega (arith, r))

get_last : (xs : List (Option (List ℕ))) (x : Option (List ℕ)) (k : ℕ) → k ≡ length xs → get_or (xs ++ (x ∷ [])) k None ≡ x
get_last [] x zero e = refl
get_last [] x (suc k) e = absurd (omega (arith, e))
get_last (y ∷ xs) x zero e = absurd (omega (arith, e))
get_last (y ∷ xs) x (suc k) e = get_last xs x k (omega (arith, e))

abbrev or_else : {A : Type 0} → Option A → A → A
or_else None d = d
or_else (Some x) d = x

pub same_row : {A : Type 0} (o : Option A) (x y : A) → o ≡ Some x → o ≡ Some y → x ≡ y
same_row None x y e f = absurd (grind (arith, e))
same_row (Some z) x y e f = sym (some_same z x e) ∙ some_same z y f
  where
    some_same : {A : Type 0} (x y : A) → Some x ≡ Some y → x ≡ y
    some_same x y e = ap (λ o. or_else o x) e

pub copied_on : (bytes : List ℕ) (all : List Row) (values named : List (Option (List ℕ))) (n : ℕ) (row : Row) (value name : Option (List ℕ))
    → slice_get all n ≡ Some row → HasText bytes row value → HasName bytes row name → AreCopied bytes all values named n
    → AreCopied bytes all (values ++ (value ∷ [])) (named ++ (name ∷ [])) (suc n)
copied_on bytes all values named n row value name here t m c = record {
  text_count = omega (arith, length-append values (value ∷ []), c.text_count);
  name_count = omega (arith, length-append named (name ∷ []), c.name_count);
  texts = λ k other r e. text_of k other e (nat_lt k n) refl r;
  names = λ k other r e. name_of k other e (nat_lt k n) refl r;
}
  where
    text_of : (k : ℕ) (other : Row) → slice_get all k ≡ Some other → (b : Bool) → nat_lt k n ≡ b → k < suc n → HasText bytes other (get_or (values ++ (value ∷ [])) k None)
    text_of k other e true f r = let s : k < n = grind (arith, f) in subst (HasText bytes other) (sym (get_before values value k (omega (arith, s, c.text_count)))) (c.texts k other s e)
    text_of k other e false f r =
        let s : k ≡ n = grind (arith, f, r) in
        let same : other ≡ row = same_row (slice_get all k) other row e (ap (slice_get all) s ∙ here) in
        subst (λ x. HasText bytes x (get_or (values ++ (value ∷ [])) k None)) (sym same) (subst (HasText bytes row) (sym (get_last values value k (omega (arith, s, c.text_count)))) t)

    name_of : (k : ℕ) (other : Row) → slice_get all k ≡ Some other → (b : Bool) → nat_lt k n ≡ b → k < suc n → HasName bytes other (get_or (named ++ (name ∷ [])) k None)
    name_of k other e true f r = let s : k < n = grind (arith, f) in subst (HasName bytes other) (sym (get_before named name k (omega (arith, s, c.name_count)))) (c.names k other s e)
    name_of k other e false f r =
        let s : k ≡ n = grind (arith, f, r) in
        let same : other ≡ row = same_row (slice_get all k) other row e (ap (slice_get all) s ∙ here) in
        subst (λ x. HasName bytes x (get_or (named ++ (name ∷ [])) k None)) (sym same) (subst (HasName bytes row) (sym (get_last named name k (omega (arith, s, c.name_count)))) m)

-- The rows that the scanner kept are those of the text.
pub are_rows : (bytes : List ℕ) (rows all : List Row) (opened : List ℕ) (from to : ℕ) → notes (map shape_of rows) opened from to ≡ recorded Machine.start no_notes 0 bytes → all ≡ rows → AreRowsOf bytes all
are_rows bytes rows all opened from to e f = λ text g.
    ap (map shape_of) f ∙ ap (λ n. n.shapes) (e ∙ ap (recorded Machine.start no_notes 0) (sym g) ∙ text_recorded text)
