use Rattle.std.proofs.Common.{drop, sym, take-append-drop}
use Rattle.flex_io.proofs.mem_sink.beginning_of.Goals as goal

pub returns-then-keep-piece-clause-beginning : goal.returns-then-keep-piece-clause-beginning
returns-then-keep-piece-clause-beginning c =
    (drop c.args.keep c.args.piece.now, sym (take-append-drop c.args.keep c.args.piece.now))
