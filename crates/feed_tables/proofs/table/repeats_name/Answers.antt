use Rattle.std.proofs.Common.{Bor, ◌≡◌, ◌<◌, ◌-◌, ◌+◌, ◌∙◌, [], sym, refl, ap, length, drop, filter, arith, ℕ, List, Some, true, false}
use Rattle.std.specs.Prelude.{Bool, Option, cond, not, ◌||◌}
use Rattle.std.specs.Bool.{one_answer}
use Rattle.std.proofs.lemmas.Slice.Eq.{bytes_eq-Decides}
use Rattle.std.specs.BTreeMap.{BTreeMap, get_by}
use Rattle.std.specs.Cmp.Lexicographic.{slice_cmp}
use Rattle.std.specs.List.{list_any}
use Rattle.std.specs.Option.{is_some}
use Rattle.std.specs.Ordering.{nat_cmp}
use Rattle.std.specs.Str.{bytes_eq}
use Rattle.std.proofs.lemmas.List.{drop_all}
use Rattle.std.proofs.lemmas.Map.Text.{btree_map_updates_str}
use Rattle.feed_tables.specs.Refusals.{has_duplicate, is_given}
use Rattle.feed_tables.proofs.TableFacts.{duplicate-more, duplicate-seen, given-at, given-names, no-duplicates}
use Rattle.feed_tables.proofs.table.repeats_name.Goals as goal

-- an empty map has no name
no-name : (later : BTreeMap (Bor (List ℕ)) (Unit {0})) (q : List ℕ) → later.entries ≡ [] → is_some (get_by (λ k. slice_cmp nat_cmp q k.now) later) ≡ false
no-name later q e = rw e refl

-- one more name in the map
name-added : (b : Bool) (o : Option (Unit {0})) → is_some (cond b (Some tt) o) ≡ (b || is_some o)
name-added true o = refl
name-added false o = refl

same-bytes : (x y : List ℕ) → bytes_eq x y ≡ bytes_eq y x
same-bytes x y =
    let d = bytes_eq-Decides y x in
    one_answer {P = x ≡ y} (bytes_eq x y) (bytes_eq y x) (bytes_eq-Decides x y) ((λ e. sym (d.0 e)), (λ e. d.1 (sym e)))

both : {a b c d : Bool} → a ≡ b → c ≡ d → (a || c) ≡ (b || d)
both {a} {b} {c} {d} e f = ap (λ t. t || c) e ∙ ap (λ t. b || t) f

pub loop-back-init : goal.loop-back-init
loop-back-init c =
    let header = c.args.header.now in
    let gone = drop_all (length header - 0) header (omega arith) in
    record {
      none = ap (λ xs. has_duplicate (filter is_given xs)) gone ∙ no-duplicates;
      names = λ q. no-name c.new-later.result q c.new-later.ensures.empty ∙ sym (ap (λ xs. list_any (bytes_eq q) (filter is_given xs)) gone);
    }

pub returns-then-is_some : goal.returns-then-is_some
returns-then-is_some c =
    let header = c.args.header.now in
    let lt : c.len.result - c.loop-back.back - 1 < length header = omega (arith, c.loop-back-test.true, c.len-back-end.ensures, c.len.ensures) in
    let next : c.len.result - c.loop-back.back - 1 + 1 ≡ length header - c.loop-back.back = omega (arith, c.loop-back-test.true, c.len-back-end.ensures, c.len.ensures) in
    let name = c.get-name.result.now in
    let seen = ap (λ n. list_any (bytes_eq name) (filter is_given (drop n header))) next ∙ sym (c.loop-back.invariant.names name) ∙ ap is_some (sym c.in_ok-insert.ensures.old) ∙ sym c.is_some.ensures ∙ c.if-is_some.true in
    sym (duplicate-more header _ (duplicate-seen header _ name _ true lt c.get-name.ensures c.is_empty.ensures c.if-is_empty.false seen))

pub loop-back-preserved : goal.loop-back-preserved
loop-back-preserved c =
    let header = c.args.header.now in
    let lt : c.len.result - c.loop-back.back - 1 < length header = omega (arith, c.loop-back-test.true, c.len-back-end.ensures, c.len.ensures) in
    let here : length header - (c.loop-back.back + 1) ≡ c.len.result - c.loop-back.back - 1 = omega (arith, c.len.ensures) in
    let next : c.len.result - c.loop-back.back - 1 + 1 ≡ length header - c.loop-back.back = omega (arith, c.loop-back-test.true, c.len-back-end.ensures, c.len.ensures) in
    let name = c.get-name.result.now in
    let seen = ap (λ n. list_any (bytes_eq name) (filter is_given (drop n header))) next ∙ sym (c.loop-back.invariant.names name) ∙ ap is_some (sym c.in_ok-insert.ensures.old) ∙ sym c.is_some.ensures ∙ c.if-is_some.false in
    record {
      none = ap (λ n. has_duplicate (filter is_given (drop n header))) here ∙ duplicate-seen header _ name _ false lt c.get-name.ensures c.is_empty.ensures c.if-is_empty.false seen
          ∙ ap (λ n. has_duplicate (filter is_given (drop n header))) next ∙ c.loop-back.invariant.none;
      names = λ q.
          ap is_some (btree_map_updates_str name c.loop-back.later c.insert.new.self (Some tt) c.in_ok-insert.ensures.updates q)
          ∙ name-added (bytes_eq name q) (get_by (λ k. slice_cmp nat_cmp q k.now) c.loop-back.later)
          ∙ both (same-bytes name q) (c.loop-back.invariant.names q ∙ ap (λ n. list_any (bytes_eq q) (filter is_given (drop n header))) (sym next))
          ∙ ap (λ x. bytes_eq q x || list_any (bytes_eq q) (filter is_given (drop (c.len.result - c.loop-back.back - 1 + 1) header))) c.get-name.ensures
          ∙ sym (ap (list_any (bytes_eq q)) (given-names header _ lt (given-at header _ name _ c.get-name.ensures c.is_empty.ensures ∙ ap not c.if-is_empty.false)))
          ∙ ap (λ n. list_any (bytes_eq q) (filter is_given (drop n header))) (sym here);
    }
