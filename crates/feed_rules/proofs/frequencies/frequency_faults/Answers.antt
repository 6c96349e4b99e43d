use Rattle.std.proofs.Common.{◌≡◌, ◌∙◌, ◌++◌, [], ap, map, subst, sym}
use Rattle.std.specs.Option.{option_map_or}
use Rattle.std.specs.Prelude.{nat_eq}
use Rattle.flex_model.specs.declared.fault.InputFile.TheVariants as Files
use Rattle.feed_tables.specs.Fields.{value_at}
use Rattle.feed_tables.specs.Records.{header_of}
use Rattle.field_text.specs.Grammars.{id, time}
use Rattle.feed_meaning.specs.FeedRules as FeedRules
use Rattle.feed_meaning.specs.Rules.{both}
use Rattle.feed_meaning.specs.Tables.{entry_of, faults_at, values_of, with_earlier_from}
use Rattle.feed_meaning.proofs.Passes.{pass_more}
use Rattle.feed_rules.specs.Pairs.{has_pair}
use Rattle.feed_rules.proofs.PairFacts.{AreMet, met_more, met_repeats, values_more}
use Rattle.feed_rules.proofs.frequencies.frequency_faults.Goals as goal

pub loop-row-init : goal.loop-row-init
unfolding with_earlier_from
loop-row-init c = record { faults = c.new-faults.ensures; met = λ q. ap (λ ks. has_pair nat_eq ks q) c.new-met.ensures.empty }

pub loop-row-preserved : goal.loop-row-preserved
loop-row-preserved c =
    let header = header_of c.args.table.now in
    let seen = c.loop-row.yielded in
    let row = c.in-Some.row in
    let earlier = map (λ x. x.values) (map (entry_of header) seen) in
    let r = values_of header row.fields in
    let trip : c.value-trip.result.now ≡ r "trip_id" = c.value-trip.ensures ∙ ap (λ o. option_map_or (value_at row.fields) o []) c.column-trip_id.ensures in
    let start : c.time-start.result ≡ time (r "start_time") = c.time-start.ensures ∙ ap time (c.value.ensures ∙ ap (λ o. option_map_or (value_at row.fields) o []) c.column-start_time.ensures) in
    let end : c.time-end.result ≡ time (r "end_time") = c.time-end.ensures ∙ ap time (c.value-in-loop-row.ensures ∙ ap (λ o. option_map_or (value_at row.fields) o []) c.column-end_time.ensures) in
    let headway : c.value-headway.result.now ≡ r "headway_secs" = c.value-headway.ensures ∙ ap (λ o. option_map_or (value_at row.fields) o []) c.column-headway_secs.ensures in
    let exact : c.value-exact.result.now ≡ r "exact_times" = c.value-exact.ensures ∙ ap (λ o. option_map_or (value_at row.fields) o []) c.column-exact_times.ensures in
    let is : both (id c.value-trip.result.now) c.time-start.result ≡ both (id (r "trip_id")) (time (r "start_time")) =
    ap (λ t. both (id t) c.time-start.result) trip ∙ ap (λ o. both (id (r "trip_id")) o) start in
    let repeated = met_repeats nat_eq (λ s. both (id (s "trip_id")) (time (s "start_time"))) c.loop-row.met.keys earlier r _ c.in_ok-is_repeated.is_repeated c.loop-row.invariant.met c.in_ok-is_repeated.ensures.repeated is in
    record {
      faults = pass_more Files.Frequencies FeedRules.frequency_rules header seen row c.loop-row.faults c.add_faults.new.faults c.frequency_rules-rules.result c.loop-row.invariant.faults
          (c.in_ok-add_faults.ensures ∙ ap (λ n. c.loop-row.faults ++ faults_at Files.Frequencies n c.frequency_rules-rules.result) c.number.ensures)
          (c.frequency_rules-rules.ensures earlier r trip start end headway exact repeated);
      met = subst (λ rs. AreMet nat_eq (λ s. both (id (s "trip_id")) (time (s "start_time"))) c.note_pair.new.met.keys rs) (sym (values_more header seen row))
          (met_more nat_eq (λ s. both (id (s "trip_id")) (time (s "start_time"))) c.loop-row.met.keys _ earlier r _ c.loop-row.invariant.met c.in_ok-is_repeated.ensures.noted is);
    }
