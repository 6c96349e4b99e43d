use Rattle.std.proofs.Common.{◌∙◌, ◌++◌, ap, map}
use Rattle.flex_model.specs.declared.fault.InputFile.TheVariants as Files
use Rattle.feed_tables.specs.Records.{header_of}
use Rattle.feed_meaning.specs.FeedRules as FeedRules
use Rattle.feed_meaning.specs.Tables.{entry_of, faults_at, values_of, with_earlier_from}
use Rattle.feed_meaning.proofs.Passes.{ids_more, pass_more, repeats_seen}
use Rattle.feed_rules.proofs.calendar.calendar_faults.Goals as goal

pub loop-row-init : goal.loop-row-init
unfolding with_earlier_from
loop-row-init c = record { faults = c.new-faults.ensures; ids = c.new-ids.ensures }

pub loop-row-preserved : goal.loop-row-preserved
loop-row-preserved c =
    let header = header_of c.args.table.now in
    let seen = c.loop-row.yielded in
    let row = c.in-Some.row in
    let read = c.read_week-week.ensures header c.week_columns-columns.ensures in
    let repeated = repeats_seen "service_id" header seen row c.loop-row.ids c.read_week-week.result.service.now c.in_ok-is_repeated.is_repeated c.loop-row.invariant.ids read.service c.in_ok-is_repeated.ensures.repeated in
    record {
      faults = pass_more Files.Calendar FeedRules.calendar_rules header seen row c.loop-row.faults c.add_faults.new.faults c.calendar_rules-rules.result c.loop-row.invariant.faults
          (c.in_ok-add_faults.ensures ∙ ap (λ n. c.loop-row.faults ++ faults_at Files.Calendar n c.calendar_rules-rules.result) c.number.ensures)
          (c.calendar_rules-rules.ensures (map (λ x. x.values) (map (entry_of header) seen)) (values_of header row.fields) read repeated);
      ids = ids_more "service_id" header seen row c.loop-row.ids c.note.new.self c.read_week-week.result.service.now c.loop-row.invariant.ids c.in_ok-is_repeated.ensures.noted read.service;
    }
