use Rattle.std.proofs.Common.{◌∙◌, ◌++◌, ap, map, refl}
use Rattle.flex_model.specs.declared.fault.InputFile.TheVariants as Files
use Rattle.feed_tables.specs.Records.{header_of}
use Rattle.feed_meaning.specs.FeedRules as FeedRules
use Rattle.feed_meaning.specs.Tables.{entry_of, faults_at, values_of, with_earlier_from}
use Rattle.feed_meaning.proofs.Passes.{ids_more, pass_more, repeats_seen}
use Rattle.feed_rules.proofs.booking_rules.booking_rule_faults.Goals as goal

pub loop-row-init : goal.loop-row-init
unfolding with_earlier_from
loop-row-init c = record { faults = c.new-faults.ensures; ids = c.new-ids.ensures }

pub loop-row-preserved : goal.loop-row-preserved
loop-row-preserved c =
    let header = header_of c.args.table.now in
    let seen = c.loop-row.yielded in
    let row = c.in-Some.row in
    let earlier = map (λ x. x.values) (map (entry_of header) seen) in
    let r = values_of header row.fields in
    let read = c.read_booking-record.ensures header c.booking_columns-columns.ensures in
    let repeated = repeats_seen "booking_rule_id" header seen row c.loop-row.ids c.read_booking-record.result.rule_id.now c.in_ok-is_repeated.is_repeated c.loop-row.invariant.ids read.rule_id c.in_ok-is_repeated.ensures.repeated in
    record {
      faults = pass_more Files.BookingRules FeedRules.booking_rules header seen row c.loop-row.faults c.add_booking_faults.new.faults (FeedRules.booking_rules earlier r) c.loop-row.invariant.faults
          (c.in_ok-add_booking_faults.ensures earlier r read repeated ∙ ap (λ n. c.loop-row.faults ++ faults_at Files.BookingRules n (FeedRules.booking_rules earlier r)) c.number.ensures)
          refl;
      ids = ids_more "booking_rule_id" header seen row c.loop-row.ids c.note.new.self c.read_booking-record.result.rule_id.now c.loop-row.invariant.ids c.in_ok-is_repeated.ensures.noted read.rule_id;
    }
