use Rattle.std.proofs.Common.{◌≡◌, ◌++◌, length, map}
use Rattle.std.specs.List.{slice_split}
use Rattle.bound_cert.specs.Reading.{is_space}
use Rattle.bound_cert.proofs.line_words.words_of.Given as goal
use denote.Shadow.{shadow}
use denote.Text.{Utf8}

abbrev pub invariant-words : goal.invariant-words
invariant-words l = record {
  split : map (λ word. word.now) l.words.items ++ slice_split is_space l.rest ≡ slice_split is_space l.text;
  text : shadow (Utf8 l.rest);
}

abbrev pub decreases-words : goal.decreases-words
decreases-words l = length l.rest
