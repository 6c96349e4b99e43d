use Rattle.std.proofs.Common.{◌≡◌, ◌∙◌, ◌+◌, ◌++◌, ◌∷◌, [], sym, ap, subst, Some, ℕ, arith, drop, get_or, length, map, take, List, true}
use Rattle.std.specs.List.{list_all, sum_by}
use Rattle.std.specs.Str.{is_utf8}
use Rattle.std.proofs.lemmas.List.{append_assoc, drop_more, map-append, take_all}
use Rattle.std.proofs.lemmas.List.Sums.{sum_by-cons, sum_by_push}
use Rattle.std.proofs.lemmas.Str.{is_utf8-from_IsUtf8}
use Rattle.csv.specs.Records.{field_at, fields_of}
use Rattle.feed_tables.specs.Fields.{trimmed}
use Rattle.feed_tables.proofs.Bounds.{trimmed-size}
use Rattle.feed_tables.proofs.FieldFacts.{all-more, field-end, field-get, field-more}
use Rattle.feed_tables.proofs.table.push_fields.Goals as goal

-- one more field after those that were added
added-more : {A : Type 0} (new now old xs : List A) (x y : A) → new ≡ now ++ x ∷ [] → now ≡ old ++ xs → x ≡ y → new ≡ old ++ (xs ++ y ∷ [])
added-more new now old xs x y a b e = rw (a, b, e) (append_assoc old xs (y ∷ []))

-- the fields that are left before and after one more
left-more : (fields : List (List ℕ)) (at : ℕ) (x : List ℕ) → Some x ≡ field_at fields at → sum_by length (drop at fields) ≡ length x + sum_by length (drop (at + 1) fields)
left-more fields at x e =
    let (low, one) = field-more fields at x e in
    ap (sum_by length) (drop_more fields at [] low) ∙ sum_by-cons length (get_or fields at []) (drop (at + 1) fields)
    ∙ ap (λ f. length f + sum_by length (drop (at + 1) fields)) (field-get fields at x e)

pub push-requires : goal.push-requires
push-requires c =
    let step = rw c.loop-field.invariant.same at c.in-Some.ensures.steps.1 in
    let left = left-more (fields_of c.args.raw.now) c.loop-field.field-iterator.at c.in-Some.field.now step in
    omega (arith, c.loop-field.invariant.room, left, trimmed-size c.in-Some.field.now, ap length c.trim_blanks.ensures)

pub loop-field-preserved : goal.loop-field-preserved
loop-field-preserved c =
    let same = c.loop-field.invariant.same in
    let step = rw same at c.in-Some.ensures.steps.1 in
    let raw = fields_of c.args.raw.now in
    let at = c.loop-field.field-iterator.at in
    let next = c.in-Some.ensures.steps.2 in
    let (low, one) = field-more raw at c.in-Some.field.now step in
    let value = c.trim_blanks.ensures in
    let mapped : map trimmed (take (at + 1) raw) ≡ map trimmed (take at raw) ++ trimmed c.in-Some.field.now ∷ [] = ap (map trimmed) one ∙ map-append trimmed (take at raw) (c.in-Some.field.now ∷ []) in
    let size = ap (sum_by length) c.in_ok-push.ensures.ok ∙ sum_by_push length c.loop-field.pool c.trim_blanks.result.now in
    record {
      same = ap (λ row. row.now) c.in-Some.ensures.steps.0 ∙ same;
      within = rw next (omega (arith, low));
      added = rw (next, mapped) (added-more _ _ _ _ _ _ c.in_ok-push.ensures.ok c.loop-field.invariant.added value);
      room = rw next (omega (arith, c.loop-field.invariant.room, left-more raw at c.in-Some.field.now step, size, trimmed-size c.in-Some.field.now, ap length value));
      text = rw (next, mapped) (all-more is_utf8 _ _ c.loop-field.invariant.text (subst (λ xs. is_utf8 xs ≡ true) c.trim_blanks.ensures (is_utf8-from_IsUtf8 _ c.trim_blanks.utf8)));
    }

pub returns-clause-fields : goal.returns-clause-fields
returns-clause-fields c =
    let same = c.loop-field.invariant.same in
    let none = field-end _ _ (rw same at c.in-None.ensures.steps.1) in
    c.loop-field.invariant.added ∙ ap (λ xs. c.args.pool.now ++ map trimmed xs) (take_all _ _ none)

pub returns-clause-text : goal.returns-clause-text
returns-clause-text c =
    let same = c.loop-field.invariant.same in
    let none = field-end _ _ (rw same at c.in-None.ensures.steps.1) in
    ap (λ xs. list_all is_utf8 (map trimmed xs)) (sym (take_all _ _ none)) ∙ c.loop-field.invariant.text
