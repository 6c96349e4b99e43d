use Rattle.std.proofs.Common.{◌≡◌, [], fold, map}
use Rattle.std.proofs.lemmas.Result.{IfOk-weaker}
use Rattle.feed_tables.specs.Records.{header_of, rows_of}
use Rattle.feed_meaning.specs.Noted.{noted}
use Rattle.feed_meaning.specs.Tables.{value_named}
use Rattle.feed_rules.specs.Links.{StandForColumn}
use Rattle.feed_rules.proofs.KnownIds.{known_column, no_column}
use Rattle.feed_rules.proofs.known_ids.known_ids_in.Goals as goal

pub returns-in-Some : goal.returns-in-Some
returns-in-Some c =
    let table = c.in-Some.table in
    let name = c.args.name.now in
    IfOk-weaker c.ids_in.result (λ ids. ids ≡ fold noted [] (map (λ row. value_named (header_of table.now) row.fields name) (rows_of table.now))) (λ ids. StandForColumn ids c.args.table name)
    (λ ids. known_column table ids name c.args.table c.in-Some.is) c.ids_in.ensures

pub returns-in-None : goal.returns-in-None
returns-in-None c = no_column c.new.result c.args.name.now c.args.table c.in-None.is c.new.ensures
