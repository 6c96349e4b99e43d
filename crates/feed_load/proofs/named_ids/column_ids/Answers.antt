use Rattle.std.proofs.Common.{◌≡◌, fold, [], map}
use Rattle.std.proofs.lemmas.Result.{IfOk-weaker}
use Rattle.feed_tables.specs.Records.{header_of, rows_of}
use Rattle.feed_meaning.specs.Noted.{noted}
use Rattle.feed_meaning.specs.Tables.{value_named}
use Rattle.feed_load.specs.NamedIds.{AreColumnIds}
use Rattle.feed_load.proofs.NamedIds.{column_ids}
use Rattle.feed_load.proofs.named_ids.column_ids.Goals as goal

pub returns-in-Some : goal.returns-in-Some
returns-in-Some c =
    let table = c.in-Some.table in
    let column = c.args.column.now in
    IfOk-weaker c.ids_in.result (λ ids. ids ≡ fold noted [] (map (λ row. value_named (header_of table.now) row.fields column) (rows_of table.now)))
    (AreColumnIds c.args.table column) (λ ids e. column_ids c.args.table table column ids c.in-Some.is e) c.ids_in.ensures
