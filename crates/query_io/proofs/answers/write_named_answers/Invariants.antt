use Rattle.std.proofs.Common.{◌≡◌, ◌++◌, take}
use Rattle.std.specs.List.{flat_map}
use Rattle.query_io.specs.AnswerText.{journey_lines}
use Rattle.query_io.proofs.answers.write_named_answers.Given as goal

abbrev pub invariant-loop-answer : goal.invariant-loop-answer
invariant-loop-answer l = l.into ≡ l.initial.into ++ flat_map (journey_lines l.feed l.times l.walking) (take l.answer-index l.answers)
