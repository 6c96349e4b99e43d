use Rattle.std.proofs.Common.{◌≡◌, map}
use Rattle.std.proofs.lemmas.Result.{IfOk-weaker}
use Rattle.flex_model.specs.declared.fault.InputFile.TheVariants.{BookingRules}
use Rattle.feed_tables.specs.Records.{header_of, rows_of}
use Rattle.feed_meaning.specs.FeedLinks.{Tables}
use Rattle.feed_meaning.specs.FeedValue.{rule_of, service_ids}
use Rattle.feed_rules.specs.Links.{records_in}
use Rattle.feed_load.specs.BookingColumns.{rule_at, rule_columns}
use Rattle.feed_load.proofs.BookingRecords.{rules_are}
use Rattle.feed_load.proofs.booking_rules.rules_of.Goals as goal

pub returns-in-Some : goal.returns-in-Some
returns-in-Some c =
    let table = c.in-Some.table in
    let ids = c.args.service_ids.now in
    IfOk-weaker c.rules_in.result (λ rules. rules ≡ map (λ row. rule_at ids (rule_columns (header_of table.now)) row.fields) (rows_of table.now))
    (λ rules. (tables : Tables) → tables BookingRules ≡ records_in c.args.booking_rules → service_ids tables ≡ ids → rules ≡ map (rule_of tables) (tables BookingRules))
    (λ rules e tables records same. rules_are tables ids c.args.booking_rules table rules c.in-Some.is c.requires e records same) c.rules_in.ensures
