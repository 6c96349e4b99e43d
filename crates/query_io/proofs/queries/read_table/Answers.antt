use Rattle.std.proofs.Common.{◌≡◌, ◌++◌, [], false, length, map, refl, sym, ◌∙◌, ap, subst}
use Rattle.std.specs.Prelude.{◌==◌, IfOk}
use Rattle.flex_model.specs.declared.fault.InputFile.TheVariants as Files
use Rattle.feed_tables.specs.Records.{header_of}
use Rattle.feed_meaning.specs.QueryFaults.{queries_schema}
use Rattle.feed_meaning.specs.Tables.{entries_of, missing_columns, missing_faults}
use Rattle.feed_meaning.specs.TimesValue.{query_of}
use Rattle.query_io.specs.Reads.{HoldsQueries}
use Rattle.query_io.proofs.QueryRecords.{is_nil, lacking_holds, record_faults_are}
use Rattle.query_io.proofs.queries.read_table.Goals as goal

pub returns-then-not-is_empty : goal.returns-then-not-is_empty
returns-then-not-is_empty c =
    let feed = c.args.feed.now in
    let times = c.args.times.now in
    let records = c.args.table.now in
    let missing = missing_columns (queries_schema feed times) (header_of records) in
    let faults = c.add_missing_columns.new.faults in
    let same : faults ≡ missing_faults Files.Queries missing =
    c.in_ok-add_missing_columns.ensures (queries_schema feed times) refl ∙ ap (λ fs. fs ++ missing_faults Files.Queries missing) c.new-faults.ensures in
    let given : (length faults == 0) ≡ false = sym c.is_empty.ensures ∙ c.if-not-is_empty.true in
    lacking_holds feed times missing records faults (map (λ e. query_of feed times e.values) (entries_of records)) same given

pub returns : goal.returns
returns c =
    let feed = c.args.feed.now in
    let times = c.args.times.now in
    let records = c.args.table.now in
    let missing = missing_columns (queries_schema feed times) (header_of records) in
    let faults = c.add_missing_columns.new.faults in
    let same : faults ≡ missing_faults Files.Queries missing =
    c.in_ok-add_missing_columns.ensures (queries_schema feed times) refl ∙ ap (λ fs. fs ++ missing_faults Files.Queries missing) c.new-faults.ensures in
    let none : faults ≡ [] = is_nil faults (sym c.is_empty.ensures ∙ c.if-not-is_empty.false) in
    subst (λ fs. IfOk c.read_records.result (HoldsQueries fs (map (λ e. query_of feed times e.values) (entries_of records))))
    (record_faults_are feed times missing records (sym same ∙ none)) c.read_records.ensures
