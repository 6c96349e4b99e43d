use Rattle.std.proofs.Common.{◌≡◌, ◌∙◌, ◌++◌, ap, map, subst, sym}
use Rattle.std.specs.Prelude.{nat_eq}
use Rattle.flex_model.specs.declared.fault.InputFile.TheVariants as Files
use Rattle.feed_tables.specs.Records.{header_of}
use Rattle.field_text.specs.Grammars.{id}
use Rattle.feed_meaning.specs.FeedRules as FeedRules
use Rattle.feed_meaning.specs.FeedRules.{sequence}
use Rattle.feed_meaning.specs.Rules.{both}
use Rattle.feed_meaning.specs.Tables.{entry_of, faults_at, values_of, with_earlier_from}
use Rattle.feed_meaning.proofs.Passes.{pass_more}
use Rattle.feed_rules.specs.Pairs.{has_pair}
use Rattle.feed_rules.proofs.PairFacts.{AreMet, met_more, met_repeats, values_more}
use Rattle.feed_rules.proofs.stop_times.stop_time_faults.Goals as goal

pub loop-row-init : goal.loop-row-init
unfolding with_earlier_from
loop-row-init c = record { faults = c.new-faults.ensures; met = λ q. ap (λ ks. has_pair nat_eq ks q) c.new-met.ensures.empty }

pub loop-row-preserved : goal.loop-row-preserved
loop-row-preserved c =
    let header = header_of c.args.table.now in
    let seen = c.loop-row.yielded in
    let row = c.in-Some.row in
    let earlier = map (λ x. x.values) (map (entry_of header) seen) in
    let r = values_of header row.fields in
    let read = c.read_stop_time-record.ensures header c.stop_time_columns-columns.ensures in
    let is : both (id c.read_stop_time-record.result.trip.now) c.read_stop_time-record.result.number ≡ both (id (r "trip_id")) (sequence (r "stop_sequence")) =
    ap (λ t. both (id t) c.read_stop_time-record.result.number) read.trip ∙ ap (λ o. both (id (r "trip_id")) o) read.number in
    let repeated = met_repeats nat_eq (λ v. both (id (v "trip_id")) (sequence (v "stop_sequence"))) c.loop-row.met.keys earlier r _ c.in_ok-is_repeated.is_repeated c.loop-row.invariant.met c.in_ok-is_repeated.ensures.repeated is in
    record {
      faults = pass_more Files.StopTimes FeedRules.stop_time_rules header seen row c.loop-row.faults c.add_faults.new.faults c.stop_time_rules-rules.result c.loop-row.invariant.faults
          (c.in_ok-add_faults.ensures ∙ ap (λ n. c.loop-row.faults ++ faults_at Files.StopTimes n c.stop_time_rules-rules.result) c.number.ensures)
          (c.stop_time_rules-rules.ensures earlier r read repeated);
      met = subst (λ rs. AreMet nat_eq (λ v. both (id (v "trip_id")) (sequence (v "stop_sequence"))) c.note_pair.new.met.keys rs) (sym (values_more header seen row))
          (met_more nat_eq (λ v. both (id (v "trip_id")) (sequence (v "stop_sequence"))) c.loop-row.met.keys _ earlier r _ c.loop-row.invariant.met c.in_ok-is_repeated.ensures.noted is);
    }
