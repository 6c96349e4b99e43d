use Rattle.std.proofs.Common.{◌≡◌, ◌++◌, map}
use Rattle.feed_gen.specs.FeedTexts.{route_record}
use Rattle.feed_gen.specs.Texts.{below, lines}
use Rattle.feed_gen.proofs.feed.routes_text.Given as goal

abbrev pub invariant-loop-l : goal.invariant-loop-l
invariant-loop-l l = l.text ≡ l.initial.text ++ lines (map route_record (below l.l))
