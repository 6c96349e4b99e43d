use Rattle.std.proofs.Common.{◌≡◌, ℕ, [], List, refl, sym, ◌∙◌}
use Rattle.std.proofs.lemmas.Result.{IfOk-weaker}
use Rattle.flex_model.specs.declared.fault.Fault.{Fault}
use Rattle.flex_model.specs.declared.fault.InputFile.TheVariants.{Locations}
use Rattle.feed_meaning.specs.FeedFaults.{Geo, feed_faults, feed_level_one, feed_level_two}
use Rattle.feed_meaning.specs.Folder.{Folder}
use Rattle.feed_meaning.specs.Locations.{Scan, zones_of}
use Rattle.feed_rules.specs.Folders.{ReadsFolder, found_zones}
use Rattle.feed_rules.specs.Levels.{level_one}
use Rattle.feed_rules.specs.Zones.{ScansFolder, TellsZones}
use Rattle.feed_rules.proofs.KeptTables.{empty, first_empty, first_given, nonempty}
use Rattle.feed_rules.proofs.LevelFacts.{level_one-exact}
use Rattle.feed_rules.proofs.SoundZones.{tells_zones}
use Rattle.feed_rules.proofs.feed_faults.faults.Goals as goal

pub returns-then-not-is_empty : goal.returns-then-not-is_empty
returns-then-not-is_empty c scan folder reads scans =
    let geo = zones_of scan in
    first_given c.in_ok-alone.alone (feed_level_one geo folder) (feed_level_two geo folder)
    (c.in_ok-alone.ensures ∙ level_one-exact geo c.args.raw.now folder reads (tells_zones c.features_are_few.ensures scan c.args.raw.now folder reads scans))
    (nonempty c.in_ok-alone.alone c.in_ok-alone.alone c.is_empty.result c.is_empty.ensures refl c.if-not-is_empty.true)

pub returns : goal.returns
returns c =
    let raw = c.args.raw.now in
    let P : List Fault → Type 0 = λ faults. (geo : Geo) (folder : Folder) → ReadsFolder raw folder → TellsZones geo (folder Locations) (found_zones raw) → level_one raw ≡ []
    → faults ≡ feed_level_two geo folder in
    let Q : List Fault → Type 0 = λ faults. (scan : List ℕ → Scan) (folder : Folder) → ReadsFolder raw folder → ScansFolder scan folder → faults ≡ feed_faults (zones_of scan) folder in
    IfOk-weaker c.level_two.result P Q
    (λ faults beside scan folder reads scans.
    let geo : Geo = zones_of scan in
    let tells = tells_zones c.features_are_few.ensures scan raw folder reads scans in
    let none : level_one raw ≡ [] = sym c.in_ok-alone.ensures
    ∙ empty c.in_ok-alone.alone c.in_ok-alone.alone c.is_empty.result c.is_empty.ensures refl c.if-not-is_empty.false in
    beside geo folder reads tells none
    ∙ first_empty (feed_level_one geo folder) (feed_level_two geo folder) (sym (level_one-exact geo raw folder reads tells) ∙ none))
    c.level_two.ensures
