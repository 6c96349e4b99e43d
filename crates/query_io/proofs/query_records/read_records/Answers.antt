use Rattle.std.proofs.Common.{◌≡◌, ◌∙◌, ◌++◌, ap, map, sym}
use Rattle.std.proofs.lemmas.List.{map-id}
use Rattle.std.proofs.lemmas.Iterator.Consumers.{YieldsList-end, YieldsList-from_first}
use Rattle.flex_model.specs.declared.fault.InputFile.TheVariants as Files
use Rattle.feed_tables.specs.Records.{header_of, rows_of}
use Rattle.feed_meaning.specs.QueryFaults as QueryFaults
use Rattle.feed_meaning.specs.Tables.{entry_of, faults_at, record_faults, values_of, with_earlier_from}
use Rattle.feed_meaning.specs.TimesValue.{query_of}
use Rattle.feed_meaning.proofs.Passes.{ids_more, pass_more, repeats_seen}
use Rattle.query_io.proofs.QueryRecords.{holds_same, queries_more}
use Rattle.query_io.proofs.query_records.read_records.Goals as goal

pub loop-row-init : goal.loop-row-init
unfolding with_earlier_from
loop-row-init c = record { faults = c.new-faults.ensures; met = c.new-met.ensures; queries = λ none. c.new-queries.ensures }

pub loop-row-preserved : goal.loop-row-preserved
loop-row-preserved c =
    let feed = c.args.feed.now in
    let times = c.args.times.now in
    let header = header_of c.args.table.now in
    let seen = c.loop-row.yielded in
    let row = c.in-Some.row in
    let fields = c.read_fields-fields.result in
    let rules = c.query_rules-rules.result in
    let has = c.read_fields-fields.ensures feed times header c.in_ok-ids.ensures c.query_columns-columns.ensures in
    let repeated = repeats_seen "query_id" header seen row c.loop-row.met fields.id.now c.in_ok-is_repeated.is_repeated c.loop-row.invariant.met has.id c.in_ok-is_repeated.ensures.repeated in
    let same = c.query_rules-rules.ensures feed times (map (λ x. x.values) (map (entry_of header) seen)) (values_of header row.fields) has repeated in
    let added = c.in_ok-add_faults.ensures ∙ ap (λ n. c.loop-row.faults ++ faults_at Files.Queries n rules) c.number.ensures in
    record {
      faults = pass_more Files.Queries (QueryFaults.query_rules feed times) header seen row c.loop-row.faults c.add_faults.new.faults rules c.loop-row.invariant.faults added same;
      met = ids_more "query_id" header seen row c.loop-row.met c.note.new.self fields.id.now c.loop-row.invariant.met c.in_ok-is_repeated.ensures.noted has.id;
      queries = queries_more feed times header seen row rules fields c.loop-row.faults c.add_faults.new.faults c.loop-row.queries c.in_ok-query.query c.push_query.new.queries
          c.loop-row.invariant.queries same has added c.in_ok-query.ensures c.in_ok-push_query.ensures;
    }

pub returns : goal.returns
returns c =
    let feed = c.args.feed.now in
    let times = c.args.times.now in
    let header = header_of c.args.table.now in
    let rows = rows_of c.args.table.now in
    let end = YieldsList-end (YieldsList-from_first (λ x. x) (λ x. x) rows (c.into_iter-row-iterator.ensures.into_iter_gives ∙ c.rows-row-items.ensures.rows))
    c.loop-row.yielded _ c.loop-row.yielded_by _ _ c.in-None.is c.next.ensures.steps in
    let all : c.loop-row.yielded ≡ rows = sym (map-id c.loop-row.yielded) ∙ end.0 in
    holds_same c.loop-row.faults (record_faults Files.Queries (QueryFaults.query_rules feed times) (map (entry_of header) rows))
    c.loop-row.queries (map (λ e. query_of feed times e.values) (map (entry_of header) rows))
    (c.loop-row.invariant.faults ∙ ap (λ rs. record_faults Files.Queries (QueryFaults.query_rules feed times) (map (entry_of header) rs)) all)
    (λ none. c.loop-row.invariant.queries none ∙ ap (λ rs. map (λ e. query_of feed times e.values) (map (entry_of header) rs)) all)
    c.queries_or_faults.result c.queries_or_faults.ensures
