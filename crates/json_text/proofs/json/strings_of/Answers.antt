use Rattle.std.proofs.Common.{suc, add-one, ◌∷◌, ◌++◌, [], subst, string_bytes, sym}
use Rattle.std.proofs.lemmas.Option.{slice_get-get_or}
use Rattle.std.specs.Option.{option_map}
use Rattle.json_text.specs.Content.{AreCopied}
use Rattle.json_text.proofs.Content.{copy_there, name_copy_there}
use Rattle.json_text.proofs.Kept.{copied_on}
use Rattle.json_text.proofs.json.strings_of.Goals as goal

pub text_copy-requires : goal.text_copy-requires
text_copy-requires c =
    copy_there c.args.text.now c.args.rows.now c.loop-row.row-index _ c.requires.rows c.requires.json c.loop-row-test.true (slice_get-get_or c.args.rows.now c.loop-row.row-index _ c.loop-row-test.true)

pub name_copy-requires : goal.name_copy-requires
name_copy-requires c =
    name_copy_there c.args.text.now c.args.rows.now c.loop-row.row-index _ c.requires.rows c.requires.json c.loop-row-test.true (slice_get-get_or c.args.rows.now c.loop-row.row-index _ c.loop-row-test.true)

pub loop-row-preserved : goal.loop-row-preserved
loop-row-preserved c =
    rw (add-one c.loop-row.row-index) (subst (λ z. AreCopied c.args.text.now c.args.rows.now z c.push-in-loop-row.new.self (suc c.loop-row.row-index)) (sym c.in_ok-push.ensures)
    (subst (λ z. AreCopied c.args.text.now c.args.rows.now (c.loop-row.texts ++ (option_map string_bytes c.in_ok-copy.copy ∷ [])) z (suc c.loop-row.row-index)) (sym c.in_ok-push-2.ensures)
    (copied_on c.args.text.now c.args.rows.now c.loop-row.texts c.loop-row.names c.loop-row.row-index _ _ _ (slice_get-get_or c.args.rows.now c.loop-row.row-index _ c.loop-row-test.true) c.in_ok-copy.ensures c.in_ok-copy-2.ensures c.loop-row.invariant)))
