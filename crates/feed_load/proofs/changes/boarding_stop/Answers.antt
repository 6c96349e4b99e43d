use Rattle.std.proofs.Common.{get_or, sym, ◌∙◌, ap}
use Rattle.feed_load.proofs.BoardingStops.{boards_nowhere, boards_there, unknown_stop}
use Rattle.feed_load.proofs.changes.boarding_stop.Goals as goal

pub returns-in_err-index : goal.returns-in_err-index
returns-in_err-index c = λ tables are.
    c.from_residual.ensures ∙ unknown_stop tables c.args.stops.now c.args.stop_ids.now are c.args.text.now (sym c.index_of.ensures ∙ c.in_err-index.was)

pub returns-then-stop : goal.returns-then-stop
returns-then-stop c = λ tables are.
    boards_there tables c.args.stops.now c.args.stop_ids.now are c.args.text.now c.in_ok-index.index (sym c.in_ok-index.ensures) c.in_ok-stop.stop.now
    (c.in_ok-stop.ensures.lookup.1 ∙ ap (λ xs. get_or xs c.in_ok-index.index c.in_ok-stop.stop.now) c.deref.ensures) c.if-stop.true

pub returns-else-stop : goal.returns-else-stop
returns-else-stop c = λ tables are.
    boards_nowhere tables c.args.stops.now c.args.stop_ids.now are c.args.text.now c.in_ok-index.index (sym c.in_ok-index.ensures) c.in_ok-stop.stop.now
    (c.in_ok-stop.ensures.lookup.1 ∙ ap (λ xs. get_or xs c.in_ok-index.index c.in_ok-stop.stop.now) c.deref.ensures) c.if-stop.false
