-- Those that come before stand first.
use Rattle.std.proofs.Common.{rules, of_calls}
use Rattle.std.proofs.lemmas.Fn.{always_returns_same}
use Rattle.ride_index.specs.Departures.{comes_before}
use Rattle.ride_index.proofs.DepartureOrder.{parted}
use Rattle.ride_index.proofs.departures.count_before.Goals as goal

pub returns-clause-point : goal.returns-clause-point
returns-clause-point c =
    c.partition_point.ensures.partitioned (comes_before c.args.named c.args.time) (always_returns_same _ _ _ (λ a r f k. search (rules, of_calls)))
    (parted c.args.named c.args.time c.args.departures.now c.requires)
