use Rattle.std.proofs.Common.{◌≡◌, ◌++◌, ◌/◌, ◌%◌, filter, map, not}
use Rattle.std.specs.Prelude.{◌==◌}
use Rattle.feed_gen.specs.TimesTexts.{between_stops}
use Rattle.feed_gen.specs.Texts.{below, lines}
use Rattle.feed_gen.proofs.times.add_stop_drives.Given as goal

abbrev pub invariant-loop-i : goal.invariant-loop-i
invariant-loop-i l = l.into ≡ l.initial.into ++ lines (map (λ i. between_stops (i / 40) (i % 40)) (filter (λ i. not (i / 40 == i % 40)) (below l.i)))
