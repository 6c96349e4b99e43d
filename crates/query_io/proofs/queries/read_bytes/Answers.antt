use Rattle.std.proofs.Common.{None, map, sym, subst}
use Rattle.std.specs.Prelude.{IfOk}
use Rattle.flex_model.specs.declared.fault.InputFile.TheVariants as Files
use Rattle.feed_tables.specs.Records.{table_records}
use Rattle.feed_meaning.specs.QueryFaults.{queries_schema}
use Rattle.feed_meaning.specs.Tables.{accepted_faults, entries_of}
use Rattle.feed_meaning.specs.TimesValue.{query_of}
use Rattle.query_io.specs.Reads.{HoldsQueries}
use Rattle.query_io.proofs.queries.read_bytes.Goals as goal

pub returns-in-Ok : goal.returns-in-Ok
returns-in-Ok c =
    let feed = c.args.feed.now in
    let times = c.args.times.now in
    let records = table_records c.args.bytes.now in
    let read = c.read_table.result in
    subst (λ o. IfOk read (HoldsQueries (accepted_faults Files.Queries (queries_schema feed times) o records) (map (λ e. query_of feed times e.values) (entries_of records))))
    (sym c.in-Ok.ensures.accepted)
    (subst (λ rs. IfOk read (HoldsQueries (accepted_faults Files.Queries (queries_schema feed times) None rs) (map (λ e. query_of feed times e.values) (entries_of rs))))
    c.in-Ok.ensures.records c.read_table.ensures)
