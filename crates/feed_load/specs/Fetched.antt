-- The files of a feed as they were fetched.
use Rattle.std.specs.Prelude.{ℕ, List, map}
use Rattle.flex_io.specs.Outside.{FileMap}
use Rattle.flex_model.specs.declared.fault.RawFile.{RawFile}
use Rattle.feed_meaning.specs.FeedFaults.{feed_files}
use Rattle.feed_meaning.specs.Told.{told_folder}

-- what fetching the files of a feed gives
abbrev pub told_feed : FileMap → List ℕ → List RawFile
told_feed told folder = map (told_folder told folder) feed_files
