use Rattle.std.proofs.Common.{◌≡◌, ◌+◌, ◌∙◌, ◌++◌, Bool, sym, ap, inr, length, map, drop, arith, ℕ, List}
use Rattle.std.specs.List.{list_any}
use Rattle.std.proofs.lemmas.List.{length-append}
use Rattle.csv.specs.Records.{fields_of}
use Rattle.feed_tables.specs.Fields.{trimmed}
use Rattle.feed_tables.specs.Refusals.{is_given}
use Rattle.feed_tables.proofs.TableFacts.{any-end, drop-added, cut-pushed, parts-pushed, refusal-long, refusal-none}
use Rattle.feed_tables.proofs.table.push_row.Goals as goal
use Rattle.feed_tables.proofs.table.push_row.Goals.{else-columns-width-via-then-columns-width+else-has_given, else-columns-width-via-else-columns-width}

-- a test of the further fields, in the pool and in the record
further : (b : Bool) (old new xs : List (List ℕ)) (start columns : ℕ) → new ≡ old ++ xs → start ≡ length old → b ≡ list_any is_given (drop (start + columns) new) → list_any is_given (drop columns xs) ≡ b
further b old new xs start columns e f h = sym (h ∙ ap (λ n. list_any is_given (drop (n + columns) new)) f ∙ ap (λ ys. list_any is_given (drop (length old + columns) ys)) e ∙ ap (list_any is_given) (drop-added old xs columns))

pub returns-then-has_given-clause-refused : goal.returns-then-has_given-clause-refused
returns-then-has_given-clause-refused c =
    inr (refusal-long _ _ _ c.requires.low c.requires.high c.in_ok-push_fields.ensures.text
    (further _ _ _ _ _ _ c.in_ok-push_fields.ensures.fields c.len-start.ensures c.has_given.ensures ∙ c.if-has_given.true))

pub returns-clause-record : goal.returns-clause-record
returns-clause-record c =
    parts-pushed c.args.ends.now.items _ c.args.pool.now _ (map trimmed (fields_of c.args.raw.now)) _ c.requires.cut c.in_ok-push.ensures.items c.len-2.ensures c.in_ok-push_fields.ensures.fields

pub returns-clause-cut : goal.returns-clause-cut
returns-clause-cut c =
    cut-pushed c.args.ends.now.items _ c.args.pool.now _ (map trimmed (fields_of c.args.raw.now)) _ c.requires.cut c.in_ok-push.ensures.items c.len-2.ensures c.in_ok-push_fields.ensures.fields

pub returns-clause-sound : goal.returns-clause-sound
returns-clause-sound c =
    let fields = c.in_ok-push_fields.ensures.fields in
    let size = ap length fields ∙ length-append c.args.pool.now (map trimmed (fields_of c.args.raw.now)) in
    refusal-none _ _ _ c.requires.low c.requires.high c.in_ok-push_fields.ensures.text (elim c.else-columns-width.branch [
      | else-columns-width-via-then-columns-width+else-has_given w ↦ further _ _ _ _ _ _ fields c.len-start.ensures w.has_given.ensures ∙ w.if-has_given.false
      | else-columns-width-via-else-columns-width w ↦ any-end is_given (map trimmed (fields_of c.args.raw.now)) c.args.columns (omega (arith, size, c.len.ensures, c.len-start.ensures, w.if-columns-width.false))
    ])
