use Rattle.std.proofs.Common.{◌≡◌, ◌<◌, ℕ, length, get_or}
use Rattle.flex_model.specs.declared.trip.Row.{Row}
use Rattle.feed_load.specs.Drafts.{row_with}
use Rattle.feed_load.specs.LinearTimes.{row_at}
use Rattle.feed_load.specs.declared.drafts.Draft.{Draft}
use Rattle.feed_load.proofs.whole_trips.rows_with.Given as goal

abbrev pub invariant-loop-index : goal.invariant-loop-index
invariant-loop-index l = record {
  many : length l.rows ≡ l.index;
  each : (i : ℕ) (row : Row) (draft : Draft) → i < l.index → get_or l.rows i row ≡ row_with (get_or l.drafts i draft) (row_at l.times i);
}
