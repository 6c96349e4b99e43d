use Rattle.std.proofs.Common.{◌≡◌, ◌∙◌, ◌++◌, [], ap, map, subst, sym}
use Rattle.std.specs.Option.{option_map_or}
use Rattle.std.specs.Ordering.{int_eq}
use Rattle.flex_model.specs.declared.fault.InputFile.TheVariants as Files
use Rattle.feed_tables.specs.Fields.{value_at}
use Rattle.feed_tables.specs.Records.{header_of}
use Rattle.field_text.specs.Grammars.{date, id}
use Rattle.feed_meaning.specs.FeedRules as FeedRules
use Rattle.feed_meaning.specs.Rules.{both}
use Rattle.feed_meaning.specs.Tables.{entry_of, faults_at, values_of, with_earlier_from}
use Rattle.feed_meaning.proofs.Passes.{pass_more}
use Rattle.feed_rules.specs.Pairs.{has_pair}
use Rattle.feed_rules.proofs.PairFacts.{AreMet, met_more, met_repeats, values_more}
use Rattle.feed_rules.proofs.calendar_dates.calendar_date_faults.Goals as goal

pub loop-row-init : goal.loop-row-init
unfolding with_earlier_from
loop-row-init c = record { faults = c.new-faults.ensures; met = λ q. ap (λ ks. has_pair int_eq ks q) c.new-met.ensures.empty }

pub loop-row-preserved : goal.loop-row-preserved
loop-row-preserved c =
    let header = header_of c.args.table.now in
    let seen = c.loop-row.yielded in
    let row = c.in-Some.row in
    let earlier = map (λ x. x.values) (map (entry_of header) seen) in
    let r = values_of header row.fields in
    let service : c.value-service.result.now ≡ r "service_id" = c.value-service.ensures ∙ ap (λ o. option_map_or (value_at row.fields) o []) c.column-service_id.ensures in
    let text : c.value.result.now ≡ r "date" = c.value.ensures ∙ ap (λ o. option_map_or (value_at row.fields) o []) c.column-date_column.ensures in
    let day : c.date-day.result ≡ date (r "date") = c.date-day.ensures ∙ ap date text in
    let kind : c.value-kind.result.now ≡ r "exception_type" = c.value-kind.ensures ∙ ap (λ o. option_map_or (value_at row.fields) o []) c.column-exception_type.ensures in
    let is : both (id c.value-service.result.now) c.date-day.result ≡ both (id (r "service_id")) (date (r "date")) =
    ap (λ t. both (id t) c.date-day.result) service ∙ ap (λ o. both (id (r "service_id")) o) day in
    let repeated = met_repeats int_eq (λ s. both (id (s "service_id")) (date (s "date"))) c.loop-row.met.keys earlier r _ c.in_ok-is_repeated.is_repeated c.loop-row.invariant.met c.in_ok-is_repeated.ensures.repeated is in
    record {
      faults = pass_more Files.CalendarDates FeedRules.calendar_date_rules header seen row c.loop-row.faults c.add_faults.new.faults c.date_rules-rules.result c.loop-row.invariant.faults
          (c.in_ok-add_faults.ensures ∙ ap (λ n. c.loop-row.faults ++ faults_at Files.CalendarDates n c.date_rules-rules.result) c.number.ensures)
          (c.date_rules-rules.ensures earlier r service day kind repeated);
      met = subst (λ rs. AreMet int_eq (λ s. both (id (s "service_id")) (date (s "date"))) c.note_pair.new.met.keys rs) (sym (values_more header seen row))
          (met_more int_eq (λ s. both (id (s "service_id")) (date (s "date"))) c.loop-row.met.keys _ earlier r _ c.loop-row.invariant.met c.in_ok-is_repeated.ensures.noted is);
    }
