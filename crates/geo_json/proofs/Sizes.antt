-- A text has no more values than bytes, and an array no more items.
use Rattle.std.proofs.Common.{◌≡◌, ℕ, suc, ◌+◌, ◌<◌, ◌≤◌, List, [], ◌∷◌, Bool, true, false, Option, None, Some, ◌⊎◌, inl, inr, ap, arith, get_or, length, length-append, slice_get, subst, sym}
use Rattle.std.proofs.lemmas.List.{get_or_past}
use Rattle.std.proofs.lemmas.Option.{get_or_from_slice_get, slice_get_cases}
use Rattle.feed_meaning.specs.Locations.{member}
use Rattle.json_text.specs.Grammar.{digit_bytes, exponent_bytes, fraction_bytes, items_bytes, mark_bytes, members_bytes, minus_bytes, more_items_bytes, more_members_bytes, number_bytes, sign_bytes, text_bytes, value_bytes, white_bytes, whole_bytes}
use Rattle.json_text.specs.Node.{Node, items_nodes, members_nodes, more_items_nodes, more_members_nodes, text_nodes, value_length, value_nodes, value_place}
use Rattle.json_text.specs.Syntax.{White, Digit, Digits, Whole, nought, positive, Sign, unsigned, plus, minus, Exponent, Number, Mark, plain, escape, unit, null_literal, true_literal, false_literal, Value, literal, number, string, array, object, Items, no_items, items, MoreItems, last_item, next_item, Members, no_members, members, MoreMembers, last_member, next_member, Text}
use Rattle.geo_json.specs.Laws.{FeaturesAreFew}
use Rattle.geo_json.specs.Scans.{node_at, value_items}
use Rattle.json_text.proofs.Numbers.{RiseWithin, items_within}

white_size : (whites : List White) (rest : List ℕ) → length rest ≤ length (white_bytes whites rest)
white_size [] rest = omega arith
white_size (w ∷ whites) rest = omega (arith, white_size whites rest)

digits_size : (digits : List Digit) (rest : List ℕ) → length rest ≤ length (digit_bytes digits rest)
digits_size [] rest = omega arith
digits_size (d ∷ digits) rest = omega (arith, digits_size digits rest)

marks_size : (marks : List Mark) (rest : List ℕ) → length rest ≤ length (mark_bytes marks rest)
marks_size [] rest = omega arith
marks_size (plain byte p ∷ marks) rest = omega (arith, marks_size marks rest)
marks_size (escape letter p ∷ marks) rest = omega (arith, marks_size marks rest)
marks_size (unit a b c d ∷ marks) rest = omega (arith, marks_size marks rest)

whole_size : (whole : Whole) (rest : List ℕ) → suc (length rest) ≤ length (whole_bytes whole rest)
whole_size nought rest = omega arith
whole_size (positive first more) rest = omega (arith, digits_size more rest)

fraction_size : (fraction : Option Digits) (rest : List ℕ) → length rest ≤ length (fraction_bytes fraction rest)
fraction_size None rest = omega arith
fraction_size (Some digits) rest = omega (arith, digits_size digits.more rest)

sign_size : (sign : Sign) (rest : List ℕ) → length rest ≤ length (sign_bytes sign rest)
sign_size unsigned rest = omega arith
sign_size plus rest = omega arith
sign_size minus rest = omega arith

exponent_size : (exponent : Option Exponent) (rest : List ℕ) → length rest ≤ length (exponent_bytes exponent rest)
exponent_size None rest = omega arith
exponent_size (Some e) rest = omega (arith, sign_size e.sign (e.digits.first.byte ∷ digit_bytes e.digits.more rest), digits_size e.digits.more rest)

minus_size : (negative : Bool) (rest : List ℕ) → length rest ≤ length (minus_bytes negative rest)
minus_size false rest = omega arith
minus_size true rest = omega arith

number_size : (n : Number) (rest : List ℕ) → suc (length rest) ≤ length (number_bytes n rest)
number_size n rest =
    let exponent = exponent_bytes n.exponent rest in
    let fraction = fraction_bytes n.fraction exponent in
    omega (arith, exponent_size n.exponent rest, fraction_size n.fraction exponent, whole_size n.whole fraction, minus_size n.negative (whole_bytes n.whole fraction))

mutual
  value_size : (value : Value) (p : ℕ) (rest : List ℕ) → length (value_nodes value p) + length rest ≤ length (value_bytes value rest)
  value_size (literal null_literal) p rest = omega arith
  value_size (literal true_literal) p rest = omega arith
  value_size (literal false_literal) p rest = omega arith
  value_size (number n) p rest = omega (arith, number_size n rest)
  value_size (string marks) p rest = omega (arith, marks_size marks rest)
  value_size (array between) p rest = omega (arith, items_size between (suc p) rest)
  value_size (object between) p rest = omega (arith, members_size between (suc p) rest)

  items_size : (between : Items) (p : ℕ) (rest : List ℕ) → length (items_nodes between p) + length rest ≤ length (items_bytes between rest)
  items_size (no_items whites) p rest = omega (arith, white_size whites (93 ∷ rest))
  items_size (items before value after more) p rest =
      let behind = more_items_bytes more rest in
      let start = p + length before in
      let end = start + value_length value + length after in
      omega (arith, length-append (value_nodes value start) (more_items_nodes more end), value_size value start (white_bytes after behind), more_items_size more end rest, white_size after behind, white_size before (value_bytes value (white_bytes after behind)))

  more_items_size : (more : MoreItems) (p : ℕ) (rest : List ℕ) → length (more_items_nodes more p) + length rest ≤ length (more_items_bytes more rest)
  more_items_size last_item p rest = omega arith
  more_items_size (next_item before value after more) p rest =
      let behind = more_items_bytes more rest in
      let start = suc p + length before in
      let end = start + value_length value + length after in
      omega (arith, length-append (value_nodes value start) (more_items_nodes more end), value_size value start (white_bytes after behind), more_items_size more end rest, white_size after behind, white_size before (value_bytes value (white_bytes after behind)))

  members_size : (between : Members) (p : ℕ) (rest : List ℕ) → length (members_nodes between p) + length rest ≤ length (members_bytes between rest)
  members_size (no_members whites) p rest = omega (arith, white_size whites (125 ∷ rest))
  members_size (members before name after_name before_value value after more) p rest =
      let start = value_place (p + length before) name after_name before_value in
      let end = start + value_length value + length after in
      let behind = more_members_bytes more rest in
      let inner = value_bytes value (white_bytes after behind) in
      let colon = white_bytes after_name (58 ∷ white_bytes before_value inner) in
      omega (
        arith,
        length-append (value_nodes value start) (more_members_nodes more end),
        value_size value start (white_bytes after behind),
        more_members_size more end rest,
        white_size after behind,
        white_size before_value inner,
        white_size after_name (58 ∷ white_bytes before_value inner),
        marks_size name colon,
        white_size before (34 ∷ mark_bytes name colon),
      )

  more_members_size : (more : MoreMembers) (p : ℕ) (rest : List ℕ) → length (more_members_nodes more p) + length rest ≤ length (more_members_bytes more rest)
  more_members_size last_member p rest = omega arith
  more_members_size (next_member before name after_name before_value value after more) p rest =
      let start = value_place (suc p + length before) name after_name before_value in
      let end = start + value_length value + length after in
      let behind = more_members_bytes more rest in
      let inner = value_bytes value (white_bytes after behind) in
      let colon = white_bytes after_name (58 ∷ white_bytes before_value inner) in
      omega (
        arith,
        length-append (value_nodes value start) (more_members_nodes more end),
        value_size value start (white_bytes after behind),
        more_members_size more end rest,
        white_size after behind,
        white_size before_value inner,
        white_size after_name (58 ∷ white_bytes before_value inner),
        marks_size name colon,
        white_size before (34 ∷ mark_bytes name colon),
      )

text_size : (tree : Text) → length (text_nodes tree) ≤ length (text_bytes tree)
text_size tree =
    let inner = value_bytes tree.value (white_bytes tree.after []) in
    omega (arith, value_size tree.value (length tree.before) (white_bytes tree.after []), white_size tree.before inner)

rise_count : (least end : ℕ) (numbers : List ℕ) → least ≤ end → RiseWithin least end numbers → length numbers + least ≤ end
rise_count least end [] l r = omega (arith, l)
rise_count least end (n ∷ more) l r = omega (arith, rise_count (suc n) end more (omega (arith, r.1)) r.2, r.0)

abbrev none : Node
none = record { place = 0; value = literal null_literal }

module _ (tree : Text) (k : ℕ) where
  few_of : (value : Value) (place : ℕ) → k < length (text_nodes tree) → slice_get (text_nodes tree) k ≡ Some (record { place = place; value = value }) → length (value_items value k place) ≤ length (text_nodes tree)
  few_of (array between) place l e = omega (arith, rise_count (suc k) (length (text_nodes tree)) _ l (items_within tree k place between e))
  few_of (literal word) place l e = omega arith
  few_of (number n) place l e = omega arith
  few_of (string marks) place l e = omega arith
  few_of (object between) place l e = omega arith

  few_items : length (value_items (node_at tree k).value k (node_at tree k).place) ≤ length (text_nodes tree)
  few_items = by (slice_get_cases (text_nodes tree) k).1
    where
      by : ((x : Node) × (k < length (text_nodes tree)) × (slice_get (text_nodes tree) k ≡ Some x) × (get_or (text_nodes tree) k x ≡ x)) ⊎ ((length (text_nodes tree) ≤ k) × (slice_get (text_nodes tree) k ≡ None))
          → length (value_items (node_at tree k).value k (node_at tree k).place) ≤ length (text_nodes tree)
      by (inl there) =
          subst (λ x. length (value_items x.value k x.place) ≤ length (text_nodes tree)) (sym (get_or_from_slice_get (text_nodes tree) k there.0 none there.2))
          (few_of there.0.value there.0.place there.1 there.2)
      by (inr past) = subst (λ x. length (value_items x.value k x.place) ≤ length (text_nodes tree)) (sym (get_or_past (text_nodes tree) k none past.0)) (omega arith)

pub features_are_few : FeaturesAreFew
features_are_few bytes json of l =
    let at = member json json.root "features" in
    omega (arith, ap (λ z. length (z.items at)) of.values, few_items of.tree at, text_size of.tree, ap length of.spelled)
