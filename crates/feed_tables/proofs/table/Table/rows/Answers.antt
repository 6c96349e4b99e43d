use Rattle.std.proofs.Common.{◌∙◌, ◌<◌, ◌≤◌, ◌+◌, ℕ, List, sym, ap, subst, arith, length, drop}
use Rattle.std.proofs.lemmas.List.{length-drop}
use Rattle.feed_tables.specs.Records.{rows_of}
use Rattle.feed_tables.proofs.TableFacts.{length-numbered, length-parts}
use Rattle.feed_tables.proofs.table.Table.rows.Goals as goal

pub new-requires : goal.new-requires
new-requires c =
    let size = sym (length-parts 0 c.self.inside.ends.items c.self.inside.pool) ∙ ap length c.self.view_is in
    subst (λ n. 0 < n) size c.self.invariant.some

-- there is one row fewer than records
rows-few : (records : List (List (List ℕ))) (limit : ℕ) → length records ≤ limit + 1 → length (rows_of records) ≤ limit
rows-few records limit few = omega (arith, few, length-numbered 2 (drop 1 records), length-drop 1 records)

pub returns-clause-few : goal.returns-clause-few
returns-clause-few c =
    let size = sym (length-parts 0 c.self.inside.ends.items c.self.inside.pool) ∙ ap length c.self.view_is in
    subst (λ rows. length rows ≤ 4000000) (sym c.new.ensures) (rows-few c.args.self.now 4000000 (subst (λ n. n ≤ 4000001) size c.self.invariant.few))
