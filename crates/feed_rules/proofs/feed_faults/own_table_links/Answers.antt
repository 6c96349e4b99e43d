use Rattle.std.proofs.Common.{◌≡◌, true, [], List, None, sym, ◌∙◌}
use Rattle.std.specs.List.{flat_map}
use Rattle.std.proofs.lemmas.Result.{IfOk-weaker}
use Rattle.flex_model.specs.declared.fault.Fault.{Fault}
use Rattle.flex_model.specs.declared.fault.InputFile.TheVariants.{StopTimes}
use Rattle.feed_meaning.specs.FeedFaults.{Geo, link_faults, links_of, tables}
use Rattle.feed_meaning.specs.FeedLinks.{Tables}
use Rattle.feed_meaning.specs.Folder.{Folder}
use Rattle.feed_meaning.specs.Tables.{entries_of, faults_at}
use Rattle.feed_rules.specs.Folders.{ReadsFolder, is_feed_table}
use Rattle.feed_rules.specs.Levels.{level_one}
use Rattle.feed_rules.specs.Links.{HaveGroupIds, StandFor}
use Rattle.feed_rules.specs.Orders.{AreOrdersOf}
use Rattle.feed_rules.proofs.LinkedTables.{group_ids, read_links, unread_links}
use Rattle.feed_rules.proofs.feed_faults.own_table_links.Goals as goal

pub returns-in-Some : goal.returns-in-Some
returns-in-Some c =
    let raw = c.args.raw.now in
    let file = c.args.file in
    let ids = c.args.ids.now in
    let order = c.args.order.now in
    let t = c.in-Some.table.now in
    let P : List Fault → Type 0 = λ faults. (others : Tables) → is_feed_table file ≡ true → StandFor ids others → AreOrdersOf order (others StopTimes) → HaveGroupIds file (entries_of t)
    → faults ≡ flat_map (λ e. faults_at file e.row (links_of file others e.values)) (entries_of t) in
    let Q : List Fault → Type 0 = λ faults. (geo : Geo) (folder : Folder) → is_feed_table file ≡ true → ReadsFolder raw folder → level_one raw ≡ [] → StandFor ids (tables geo folder)
    → AreOrdersOf order (tables geo folder StopTimes) → faults ≡ link_faults geo folder file in
    IfOk-weaker c.file_link_faults.result P Q
    (λ faults own geo folder is reads none stand orders.
    own (tables geo folder) is stand orders (group_ids raw none file t c.in-Some.ensures.found)
    ∙ read_links geo folder raw reads file is t (c.in-Some.ensures.records folder reads))
    c.file_link_faults.ensures

pub returns-in-None : goal.returns-in-None
returns-in-None c = λ geo folder is reads none stand orders.
    let unread : c.table.result ≡ None = cc in
    c.new.ensures ∙ sym (unread_links geo folder c.args.raw.now reads none c.args.file is c.table.result c.table.ensures.found unread)
