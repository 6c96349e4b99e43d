use Rattle.std.proofs.Common.{◌≡◌, ◌<◌, arith, get_or, length, rules, sym, ◌∙◌}
use Rattle.std.proofs.lemmas.Option.{slice_get-get_or}
use Rattle.json_text.proofs.Content.{found_nowhere, found_there, is_name, name_reads, next_name, no_row, search_starts, searches_on}
use Rattle.json_text.proofs.Walks.{next_read}
use Rattle.json_text.proofs.members.first_named.Goals as goal

pub loop-child-init : goal.loop-child-init
loop-child-init c = search_starts _ _ _ _ _

pub name_of-requires-clause-some : goal.name_of-requires-clause-some
name_of-requires-clause-some c =
    let within : c.loop-child.child < length c.args.rows.now = omega (arith, c.loop-child-test.true, c.requires.within) in
    (next_name c.args.rows.now c.args.text.now c.args.name.now c.args.first c.loop-child.child c.args.end c.loop-child-test.true c.loop-child.invariant c.requires.members _ (slice_get-get_or c.args.rows.now c.loop-child.child no_row within)).0

pub name_of-requires-clause-stands : goal.name_of-requires-clause-stands
name_of-requires-clause-stands c =
    let within : c.loop-child.child < length c.args.rows.now = omega (arith, c.loop-child-test.true, c.requires.within) in
    (next_name c.args.rows.now c.args.text.now c.args.name.now c.args.first c.loop-child.child c.args.end c.loop-child-test.true c.loop-child.invariant c.requires.members _ (slice_get-get_or c.args.rows.now c.loop-child.child no_row within)).1

pub returns-then-eq : goal.returns-then-eq
returns-then-eq c = λ members m.
    let within : c.loop-child.child < length c.args.rows.now = omega (arith, c.loop-child-test.true, c.requires.within) in
    let there = slice_get-get_or c.args.rows.now c.loop-child.child no_row within in
    let same : c.name_of.result.now ≡ c.args.name.now = search rules in
    let read = name_reads c.args.text.now (get_or c.args.rows.now c.loop-child.child no_row) _ _ c.name_of.result.now c.name_of.ensures c.get.ensures (c.requires.names c.loop-child.child (get_or c.args.rows.now c.loop-child.child no_row) within there) in
    found_there c.args.rows.now c.args.text.now c.args.name.now c.args.first c.loop-child.child c.args.end c.loop-child-test.true c.loop-child.invariant
    (λ member h. sym (is_name c.args.rows.now c.args.text.now c.loop-child.child (get_or c.args.rows.now c.loop-child.child no_row) member c.name_of.result.now h there read) ∙ same) members m

pub loop-child-smaller : goal.loop-child-smaller
loop-child-smaller c =
    let within : c.loop-child.child < length c.args.rows.now = omega (arith, c.loop-child-test.true, c.requires.within) in
    omega (arith, c.requires.rises c.loop-child.child within, next_read c.args.rows.now c.loop-child.child no_row within, c.loop-child-test.true)

pub loop-child-preserved : goal.loop-child-preserved
loop-child-preserved c =
    let within : c.loop-child.child < length c.args.rows.now = omega (arith, c.loop-child-test.true, c.requires.within) in
    let there = slice_get-get_or c.args.rows.now c.loop-child.child no_row within in
    let differs : c.name_of.result.now ≡ c.args.name.now → ⊥ = search rules in
    let read = name_reads c.args.text.now (get_or c.args.rows.now c.loop-child.child no_row) _ _ c.name_of.result.now c.name_of.ensures c.get.ensures (c.requires.names c.loop-child.child (get_or c.args.rows.now c.loop-child.child no_row) within there) in
    searches_on c.args.rows.now c.args.text.now c.args.name.now c.args.first c.loop-child.child c.args.end (get_or c.args.rows.now c.loop-child.child no_row).next c.loop-child-test.true
    (omega (arith, c.requires.rises c.loop-child.child within, next_read c.args.rows.now c.loop-child.child no_row within))
    (next_read c.args.rows.now c.loop-child.child no_row within) c.loop-child.invariant
    (λ member h e. differs (is_name c.args.rows.now c.args.text.now c.loop-child.child (get_or c.args.rows.now c.loop-child.child no_row) member c.name_of.result.now h there read ∙ e))

pub returns : goal.returns
returns c = λ members m. found_nowhere _ _ _ _ _ _ c.loop-child-test.false c.loop-child.invariant members m
