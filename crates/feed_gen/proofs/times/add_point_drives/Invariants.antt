use Rattle.std.proofs.Common.{◌≡◌, ◌++◌, ◌/◌, ◌%◌, map}
use Rattle.feed_gen.specs.TimesTexts.{from_point}
use Rattle.feed_gen.specs.Texts.{below, lines}
use Rattle.feed_gen.proofs.times.add_point_drives.Given as goal

abbrev pub invariant-loop-i : goal.invariant-loop-i
invariant-loop-i l = l.into ≡ l.initial.into ++ lines (map (λ i. from_point (i / 40) (i % 40)) (below l.i))
