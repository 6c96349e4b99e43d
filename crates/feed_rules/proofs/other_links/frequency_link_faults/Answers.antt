use Rattle.std.proofs.Common.{◌≡◌, ◌∙◌, ◌++◌, ap, []}
use Rattle.std.specs.Option.{option_map_or}
use Rattle.flex_model.specs.declared.fault.InputFile.TheVariants as Files
use Rattle.feed_tables.specs.Fields.{value_at}
use Rattle.feed_tables.specs.Records.{header_of}
use Rattle.feed_meaning.specs.FeedLinks as FeedLinks
use Rattle.feed_meaning.specs.Tables.{faults_at, values_of}
use Rattle.feed_meaning.proofs.LinkFacts.{link_more}
use Rattle.feed_rules.proofs.other_links.frequency_link_faults.Goals as goal

pub loop-row-preserved : goal.loop-row-preserved
loop-row-preserved c = λ tables ids.
    let header = header_of c.args.frequencies.now in
    let row = c.in-Some.row in
    let trip : c.value-trip.result.now ≡ values_of header row.fields "trip_id" = c.value-trip.ensures ∙ ap (λ o. option_map_or (value_at row.fields) o []) c.column-trip_id.ensures in
    link_more Files.Frequencies (FeedLinks.frequency_links tables) header c.loop-row.yielded row c.loop-row.faults c.add_faults.new.faults c.frequency_links-rules.result
    (c.loop-row.invariant tables ids)
    (c.in_ok-add_faults.ensures ∙ ap (λ n. c.loop-row.faults ++ faults_at Files.Frequencies n c.frequency_links-rules.result) c.number.ensures)
    (c.frequency_links-rules.ensures tables (values_of header row.fields) ids trip)
