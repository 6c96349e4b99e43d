-- What fetching the files of a folder gives, where files are told.
use Rattle.std.specs.Prelude.{ℕ, List, ◌++◌, codes, ◌≤◌, length}
use Rattle.flex_io.specs.Outside.{FileMap, bytes_at}
use Rattle.flex_model.specs.declared.fault.InputFile.{InputFile}
use Rattle.flex_model.specs.declared.fault.RawFile.{RawFile}
use Rattle.flex_model.specs.declared.fault.RawFile.TheVariants.{Bytes}
use Rattle.feed_meaning.specs.Files.{byte_limit, file_name, raw_of}
use Rattle.feed_meaning.specs.Folder.{Folder}

-- the path of a file in its folder
abbrev pub path_in : List ℕ → InputFile → List ℕ
path_in folder file = folder ++ codes "/" ++ file_name file

-- what fetching a path within a limit gives
abbrev pub told_file : FileMap → ℕ → List ℕ → RawFile
told_file files limit path = raw_of limit (bytes_at files path)

-- what fetching the files of a folder gives, each within its limit
abbrev pub told_folder : FileMap → List ℕ → Folder
told_folder files folder file = told_file files (byte_limit file) (path_in folder file)

-- no more bytes than the limit
abbrev pub IsWithin : ℕ → RawFile → Type 0
IsWithin limit (Bytes bytes) = length bytes ≤ limit
IsWithin limit raw = Unit {0}
