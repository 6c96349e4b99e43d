use Rattle.std.proofs.Common.{◌≡◌, [], List, None, map, refl, subst}
use Rattle.std.proofs.lemmas.Result.{IfOk-weaker}
use Rattle.flex_model.specs.declared.fault.Fault.{Fault}
use Rattle.flex_model.specs.declared.fault.InputFile.TheVariants.{Locations, StopTimes}
use Rattle.feed_tables.specs.Records.{table_records}
use Rattle.feed_meaning.specs.FeedFaults.{Geo, feed_level_two, tables}
use Rattle.feed_meaning.specs.Folder.{Folder, bytes_of}
use Rattle.feed_meaning.specs.Tables.{entries_of}
use Rattle.feed_rules.specs.Folders.{ReadsFolder, found_zones}
use Rattle.feed_rules.specs.Levels.{level_one}
use Rattle.feed_rules.specs.Links.{StandFor}
use Rattle.feed_rules.specs.Orders.{AreOrdersOf}
use Rattle.feed_rules.specs.Zones.{TellsZones}
use Rattle.feed_rules.proofs.KeptTables.{needed, table_bytes}
use Rattle.feed_rules.proofs.feed_faults.level_two.Goals as goal

pub returns-in_default : goal.returns-in_default
returns-in_default c geo folder reads tells none =
    let unread : c.table.result ≡ None = cc in
    absurd (needed c.args.raw.now folder reads none StopTimes refl refl c.table.result c.table.ensures.found unread)

pub returns : goal.returns
returns c =
    let raw = c.args.raw.now in
    let P : List Fault → Type 0 = λ faults. (geo : Geo) (folder : Folder) → ReadsFolder raw folder → TellsZones geo (folder Locations) (found_zones raw) → level_one raw ≡ []
    → StandFor c.in_ok-ids.ids (tables geo folder) → AreOrdersOf c.in_ok-order.order (tables geo folder StopTimes) → faults ≡ feed_level_two geo folder in
    let Q : List Fault → Type 0 = λ faults. (geo : Geo) (folder : Folder) → ReadsFolder raw folder → TellsZones geo (folder Locations) (found_zones raw) → level_one raw ≡ []
    → faults ≡ feed_level_two geo folder in
    IfOk-weaker c.all_link_faults.result P Q
    (λ faults linked geo folder reads tells none.
    let stand = c.in_ok-ids.ensures (tables geo folder) (c.link_tables-found.ensures geo folder reads tells none) in
    let stop_times : c.in-Some.stop_times.now ≡ table_records (bytes_of (folder StopTimes)) =
    table_bytes (folder StopTimes) c.in-Some.stop_times.now (c.in-Some.ensures.records folder reads) in
    let orders = subst (λ t. AreOrdersOf c.in_ok-order.order (map (λ e. e.values) (entries_of t))) stop_times c.in_ok-order.ensures in
    linked geo folder reads tells none stand orders)
    c.all_link_faults.ensures
