use Rattle.std.proofs.Common.{◌≡◌, true, All, AllPairs, IfOk, List, map, sym, ◌∙◌, ap, subst, ◌⊎◌}
use Rattle.std.specs.Prelude.{filter}
use Rattle.flex_model.specs.declared.change.ChangeRow.{ChangeRow}
use Rattle.flex_model.specs.declared.fault.InputFile.TheVariants.{Transfers}
use Rattle.feed_meaning.specs.FeedValue.{change_before, change_of, is_change, rising}
use Rattle.feed_rules.specs.Links.{records_in}
use Rattle.feed_load.specs.ChangeTables.{HasSoundSeconds}
use Rattle.feed_load.specs.TableValues.{values_in}
use Rattle.feed_load.proofs.PresentTables.{records_are}
use Rattle.feed_load.proofs.changes.changes_of.Goals as goal

pub returns : goal.returns
returns c = λ tables records are sound.
    let here : tables Transfers ≡ values_in c.in-Some.table.now = records ∙ ap records_in c.in-Some.is ∙ records_are c.in-Some.table.now in
    let found : c.in_ok-changes.changes.items ≡ map (change_of tables) (filter (is_change tables) (tables Transfers)) =
    c.in_ok-changes.ensures tables are (subst (All HasSoundSeconds) here sound.seconds) ∙ ap (λ rs. map (change_of tables) (filter (is_change tables) rs)) (sym here) in
    subst (λ (xs : List ChangeRow). IfOk c.in_order.result (λ changes. changes ≡ rising change_before xs)) found
    (c.in_order.ensures (subst (AllPairs (λ a b. (change_before a b ≡ true) ⊎ (change_before b a ≡ true))) (sym found) sound.ordered))
