use Rattle.std.proofs.Common.{◌∙◌, ◌++◌, ap}
use Rattle.flex_model.specs.declared.fault.InputFile.TheVariants as Files
use Rattle.feed_tables.specs.Records.{header_of}
use Rattle.feed_meaning.specs.FeedLinks as FeedLinks
use Rattle.feed_meaning.specs.Tables.{faults_at, values_of}
use Rattle.feed_meaning.proofs.LinkFacts.{link_more}
use Rattle.feed_rules.proofs.links.stop_time_link_faults.Goals as goal

pub loop-row-preserved : goal.loop-row-preserved
loop-row-preserved c = λ tables ids orders.
    let header = header_of c.args.stop_times.now in
    let row = c.in-Some.row in
    let read = c.read_stop_time-record.ensures header c.stop_time_columns-columns.ensures in
    link_more Files.StopTimes (FeedLinks.stop_time_links tables) header c.loop-row.yielded row c.loop-row.faults c.add_faults.new.faults c.stop_time_links-rules.result
    (c.loop-row.invariant tables ids orders)
    (c.in_ok-add_faults.ensures ∙ ap (λ n. c.loop-row.faults ++ faults_at Files.StopTimes n c.stop_time_links-rules.result) c.number.ensures)
    (c.stop_time_links-rules.ensures tables (values_of header row.fields) read ids orders)
