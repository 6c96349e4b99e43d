use Rattle.std.proofs.Common.{◌≡◌, [], take}
use Rattle.std.specs.List.{flat_map}
use Rattle.flex_model.specs.declared.fault.InputFile.TheVariants.{Locations, StopTimes}
use Rattle.feed_meaning.specs.FeedFaults.{Geo, feed_files, link_faults, tables}
use Rattle.feed_meaning.specs.Folder.{Folder}
use Rattle.feed_rules.specs.Folders.{ReadsFolder, found_zones}
use Rattle.feed_rules.specs.Levels.{level_one}
use Rattle.feed_rules.specs.Links.{StandFor}
use Rattle.feed_rules.specs.Orders.{AreOrdersOf}
use Rattle.feed_rules.specs.Zones.{TellsZones}
use Rattle.feed_rules.proofs.feed_faults.all_link_faults.Given as goal

abbrev pub invariant-loop-file : goal.invariant-loop-file
invariant-loop-file l =
    (geo : Geo) (folder : Folder) → ReadsFolder l.raw folder → TellsZones geo (folder Locations) (found_zones l.raw) → level_one l.raw ≡ [] → StandFor l.ids (tables geo folder)
    → AreOrdersOf l.order (tables geo folder StopTimes) → l.faults ≡ flat_map (link_faults geo folder) (take l.file-index feed_files)
