use Rattle.std.proofs.Common.{◌≡◌, ◌++◌, map}
use Rattle.feed_gen.specs.TimesTexts.{point_record}
use Rattle.feed_gen.specs.Texts.{below, lines}
use Rattle.feed_gen.proofs.times.points_text.Given as goal

abbrev pub invariant-loop-i : goal.invariant-loop-i
invariant-loop-i l = l.text ≡ l.initial.text ++ lines (map point_record (below l.i))
