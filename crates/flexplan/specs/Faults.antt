-- The text of a list of faults: a line for each.
use Rattle.std.specs.Prelude.{ℕ, List, [], ◌∷◌, ◌++◌, codes, decimal}
use Rattle.std.specs.List.{flat_map}
use Rattle.flex_model.specs.declared.fault.Fault.{Fault}
use Rattle.feed_meaning.specs.Files.{code_name, file_name}

abbrev pub line_of : Fault → List ℕ
line_of fault = codes "fault " ++ file_name fault.file ++ codes " " ++ decimal fault.row
    ++ codes " " ++ code_name fault.code ++ 10 ∷ []

abbrev pub text_of : List Fault → List ℕ
text_of faults = flat_map line_of faults
