use Rattle.std.proofs.Common.{◌≡◌, ◌∙◌, ◌++◌, ap, map, subst, sym}
use Rattle.feed_tables.specs.Records.{header_of}
use Rattle.field_text.specs.Grammars.{count, id}
use Rattle.feed_meaning.specs.Rules.{both}
use Rattle.feed_meaning.specs.Tables.{entry_of, faults_at, values_of, with_earlier_from}
use Rattle.feed_meaning.specs.TimesFaults as TimesFaults
use Rattle.feed_meaning.proofs.Passes.{pass_more}
use Rattle.place_times.specs.Pairs.{has_pair, pairs_of}
use Rattle.place_times.proofs.PairFacts.{AreMet, key_of, met_more, met_repeats, values_more}
use Rattle.place_times.proofs.Texts.{text_is}
use Rattle.place_times.proofs.span_records.span_faults.Goals as goal

pub loop-row-init : goal.loop-row-init
unfolding with_earlier_from
loop-row-init c = record { faults = c.new-faults.ensures; met = λ q. ap (λ ks. has_pair (pairs_of ks) q) c.new-met.ensures.empty }

pub loop-row-preserved : goal.loop-row-preserved
loop-row-preserved c =
    let header = header_of c.args.table.now in
    let seen = c.loop-row.yielded in
    let row = c.in-Some.row in
    let earlier = map (λ x. x.values) (map (entry_of header) seen) in
    let r = values_of header row.fields in
    let from = text_is header row.fields "from_id" _ c.value-from.result.now c.value-from.ensures c.column-from_id.ensures in
    let to = text_is header row.fields "to_id" _ c.value-to.result.now c.value-to.ensures c.column-to_id.ensures in
    let text = text_is header row.fields "seconds" _ c.value.result.now c.value.ensures c.column-seconds_column.ensures in
    let seconds = c.seconds_within-seconds.ensures ∙ ap (count c.args.most) text in
    let is : both (id c.value-from.result.now) (id c.value-to.result.now) ≡ key_of r =
    ap (λ t. both (id t) (id c.value-to.result.now)) from ∙ ap (λ t. both (id (r "from_id")) (id t)) to in
    let repeated = met_repeats (pairs_of c.loop-row.met.keys) earlier r _ c.in_ok-is_repeated.is_repeated c.loop-row.invariant.met c.in_ok-is_repeated.ensures.repeated is in
    record {
      faults = pass_more c.args.file (TimesFaults.span_rules c.args.most) header seen row c.loop-row.faults c.add_faults.new.faults c.span_rules-rules.result c.loop-row.invariant.faults
          (c.in_ok-add_faults.ensures ∙ ap (λ n. c.loop-row.faults ++ faults_at c.args.file n c.span_rules-rules.result) c.number.ensures)
          (c.span_rules-rules.ensures c.args.most earlier r from to seconds repeated);
      met = subst (λ rs. AreMet (pairs_of c.note_pair.new.met.keys) rs) (sym (values_more header seen row))
          (met_more (pairs_of c.loop-row.met.keys) _ earlier r _ c.loop-row.invariant.met c.in_ok-is_repeated.ensures.noted is);
    }
