-- The sequences of the records of each trip.
use Rattle.std.specs.Prelude.{not, List}
use Rattle.std.specs.List.{filter}
use Rattle.feed_meaning.specs.FeedLinks.{is_timed}
use Rattle.feed_meaning.specs.FeedRules.{has_window}
use Rattle.feed_meaning.specs.Rules.{Values}
use Rattle.feed_rules.specs.Sequences.{HoldsFirst}
use Rattle.feed_rules.specs.declared.orders.TripOrder.{TripOrder}

-- the sequences are those of the records
pub record AreOrdersOf (order : TripOrder) (records : List Values) : Type 0 where
  pub windowless : HoldsFirst order.windowless (filter (λ s. not (has_window s)) records)
  pub timed : HoldsFirst order.timed (filter is_timed records)
