use Rattle.std.proofs.Common.{◌≡◌, ◌++◌, ◌/◌, ◌%◌, map}
use Rattle.feed_gen.specs.StopTimesText.{fixed_record}
use Rattle.feed_gen.specs.Texts.{below, lines}
use Rattle.feed_gen.proofs.stop_times.stop_times_text.Given as goal

abbrev pub invariant-loop-i : goal.invariant-loop-i
invariant-loop-i l = l.text ≡ l.initial.text ++ lines (map (λ i. fixed_record l.number (i / 192) (i / 8 % 24) (i % 8)) (below l.i))
