use Rattle.std.proofs.Common.{◌≡◌, List, true, sym, ◌∙◌, ap}
use Rattle.std.specs.Option.{option_to_list}
use Rattle.std.proofs.lemmas.Result.{IfOk-weaker}
use Rattle.flex_model.specs.declared.fault.Fault.{Fault}
use Rattle.flex_model.specs.declared.feed.Feed.{Feed}
use Rattle.feed_meaning.specs.Folder.{Folder}
use Rattle.place_times.specs.Fetches.{AreFetched}
use Rattle.place_times.specs.Levels.{AreRead, judged, level_one}
use Rattle.place_times.specs.declared.read.ReadTimes.TheVariants as read
use Rattle.place_times.proofs.LevelFacts.{faults_given, zone_list_full}
use Rattle.place_times.proofs.folder.zoneless_faults.Goals as goal

pub returns : goal.returns
returns c =
    let files = c.args.files.now in
    let tables = c.in_ok-tables.tables in
    let P : List Fault → Type 0 = λ faults. faults ≡ level_one (option_to_list c.zone_fault-zone.result) tables in
    let Q : List Fault → Type 0 = λ faults. (folder : Folder) (feed : Feed) → AreFetched folder files → AreRead (judged true) feed folder (read.Faulty faults) in
    IfOk-weaker c.level_one.result P Q (λ faults h folder feed fetched.
    let is = h ∙ ap (λ zone. level_one zone tables) c.zone_fault-zone.ensures in
    faults_given true folder files fetched tables c.in_ok-tables.ensures feed faults is
    (λ none. zone_list_full files.zone_text files.zone_tzif tables (sym is ∙ none)))
    c.level_one.ensures
