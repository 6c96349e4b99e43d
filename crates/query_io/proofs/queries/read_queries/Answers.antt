use Rattle.std.proofs.Common.{map, sym, ◌∙◌, ap}
use Rattle.std.proofs.lemmas.Result.{IfOk-weaker}
use Rattle.flex_model.specs.declared.fault.InputFile.TheVariants as Files
use Rattle.flex_model.specs.declared.fault.RawFile.TheVariants.{Bytes}
use Rattle.feed_tables.specs.Records.{table_records}
use Rattle.feed_meaning.specs.QueryFaults.{queries_schema}
use Rattle.feed_meaning.specs.Tables.{entries_of, table_faults}
use Rattle.feed_meaning.specs.TimesValue.{query_of}
use Rattle.query_io.specs.Reads.{AreRead, HoldsQueries}
use Rattle.query_io.proofs.QueryRecords.{bytes_read}
use Rattle.query_io.proofs.queries.read_queries.Goals as goal

pub returns-in-Bytes : goal.returns-in-Bytes
returns-in-Bytes c =
    let feed = c.args.feed.now in
    let times = c.args.times.now in
    let raw = c.args.raw.now in
    let bytes = c.as_slice.result.now in
    IfOk-weaker c.read_bytes.result
    (HoldsQueries (table_faults Files.Queries (queries_schema feed times) (table_records bytes)) (map (λ e. query_of feed times e.values) (entries_of (table_records bytes))))
    (AreRead feed times raw)
    (bytes_read feed times raw bytes c.requires.feed (c.in-Bytes.is ∙ ap Bytes (sym c.as_slice.ensures)))
    c.read_bytes.ensures
