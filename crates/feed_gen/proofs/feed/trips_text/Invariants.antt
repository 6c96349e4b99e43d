use Rattle.std.proofs.Common.{◌≡◌, ◌++◌, ◌/◌, ◌%◌, map}
use Rattle.feed_gen.specs.FeedTexts.{trip_record}
use Rattle.feed_gen.specs.Texts.{below, lines}
use Rattle.feed_gen.proofs.feed.trips_text.Given as goal

abbrev pub invariant-loop-t : goal.invariant-loop-t
invariant-loop-t l = l.text ≡ l.initial.text ++ lines (map (λ t. trip_record (t / 24) (t % 24)) (below l.t))
