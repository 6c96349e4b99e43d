use Rattle.std.proofs.Common.{◌≡◌, ◌++◌, ◌%◌, filter, map, not}
use Rattle.std.specs.Prelude.{◌==◌}
use Rattle.feed_gen.specs.FeedTexts.{transfer_record}
use Rattle.feed_gen.specs.Texts.{below, lines}
use Rattle.feed_gen.proofs.feed.transfers_text.Given as goal

abbrev pub invariant-loop-i : goal.invariant-loop-i
invariant-loop-i l = l.text ≡ l.initial.text ++ lines (map transfer_record (filter (λ i. not (i % 8 == 7)) (below l.i)))
