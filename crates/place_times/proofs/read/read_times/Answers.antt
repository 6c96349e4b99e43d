use Rattle.std.proofs.Common.{◌≡◌, [], false, length, sym, ◌∙◌, ap}
use Rattle.std.specs.Prelude.{◌==◌}
use Rattle.std.specs.Option.{option_to_list}
use Rattle.std.proofs.lemmas.Result.{IfOk-weaker}
use Rattle.feed_meaning.specs.Folder.{Folder}
use Rattle.place_times.specs.Fetches.{AreFetched}
use Rattle.place_times.specs.Found.{values_of_found}
use Rattle.place_times.specs.Levels.{AreRead, HoldsTimes, judged, level_one, link_list, times_in, zone_list}
use Rattle.place_times.specs.declared.read.ReadTimes.{ReadTimes}
use Rattle.place_times.proofs.LevelFacts.{accepted_read, accepted_tables, faults_given, is_nil, not_empty}
use Rattle.place_times.proofs.read.read_times.Goals as goal

pub returns-then-not-is_empty : goal.returns-then-not-is_empty
returns-then-not-is_empty c = λ folder fetched.
    let tables = c.in_ok-tables.tables in
    faults_given false folder c.args.files.now fetched tables c.in_ok-tables.ensures c.args.feed.now c.in_ok-alone.alone
    (c.in_ok-alone.ensures ∙ ap (λ zone. level_one zone tables) c.zone_fault-zone.ensures)
    (not_empty c.in_ok-alone.alone (sym c.is_empty.ensures ∙ c.if-not-is_empty.true))

pub read_accepted-requires-clause-accepted : goal.read_accepted-requires-clause-accepted
read_accepted-requires-clause-accepted c =
    accepted_tables (option_to_list c.zone_fault-zone.result) c.in_ok-tables.tables
    (sym c.in_ok-alone.ensures ∙ is_nil c.in_ok-alone.alone (sym c.is_empty.ensures ∙ c.if-not-is_empty.false))

pub returns : goal.returns
returns c =
    let feed = c.args.feed.now in
    let files = c.args.files.now in
    let tables = c.in_ok-tables.tables in
    let none : level_one (zone_list files.zone_text files.zone_tzif false) tables ≡ [] =
    ap (λ zone. level_one zone tables) (sym c.zone_fault-zone.ensures) ∙ sym c.in_ok-alone.ensures
    ∙ is_nil c.in_ok-alone.alone (sym c.is_empty.ensures ∙ c.if-not-is_empty.false) in
    IfOk-weaker c.read_accepted.result (HoldsTimes (link_list feed (values_of_found tables.points) tables) (times_in feed tables))
    (λ (r : ReadTimes). (folder : Folder) → AreFetched folder files → AreRead (judged false) feed folder r)
    (λ r h folder fetched. accepted_read false folder files fetched tables c.in_ok-tables.ensures none feed r h)
    c.read_accepted.ensures
