use Rattle.std.proofs.Common.{◌≡◌, length, map}
use Rattle.std.specs.Prelude.{IfSome, take}
use Rattle.feed_meaning.specs.FeedFaults.{feed_files}
use Rattle.feed_meaning.specs.Told.{told_folder}
use Rattle.feed_load.proofs.fetch.fetch_feed.Given as goal

abbrev pub invariant-loop-file : goal.invariant-loop-file
invariant-loop-file g l = record {
  size : length l.bytes ≡ 13;
  fetched : IfSome (g.F.Files.told l.initial.files) (λ told. take l.file-index l.bytes ≡ map (told_folder told l.folder) (take l.file-index feed_files));
  told : g.F.Files.told l.files ≡ g.F.Files.told l.initial.files;
  answered : g.F.Files.faults l.files ≡ g.F.Files.faults l.initial.files;
  steady : g.F.Files.is_steady l.initial.files → g.F.Files.is_steady l.files;
}
