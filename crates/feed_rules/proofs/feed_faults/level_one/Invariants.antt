use Rattle.std.proofs.Common.{◌≡◌, take}
use Rattle.std.specs.List.{flat_map}
use Rattle.feed_meaning.specs.FeedFaults.{feed_files}
use Rattle.feed_rules.specs.Levels.{own_faults}
use Rattle.feed_rules.proofs.feed_faults.level_one.Given as goal

abbrev pub invariant-loop-file : goal.invariant-loop-file
invariant-loop-file l = l.faults ≡ flat_map (own_faults l.raw) (take l.file-index feed_files)
