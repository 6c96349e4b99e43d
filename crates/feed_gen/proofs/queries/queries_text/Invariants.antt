use Rattle.std.proofs.Common.{◌≡◌, ◌++◌, map}
use Rattle.feed_gen.specs.QueriesText.{query_record}
use Rattle.feed_gen.specs.Texts.{below, lines}
use Rattle.feed_gen.proofs.queries.queries_text.Given as goal

abbrev pub invariant-loop-i : goal.invariant-loop-i
invariant-loop-i l = l.text ≡ l.initial.text ++ lines (map (query_record l.number) (below l.i))
