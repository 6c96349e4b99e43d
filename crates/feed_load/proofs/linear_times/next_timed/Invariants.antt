use Rattle.std.proofs.Common.{◌≡◌, ◌<◌, ℕ, false}
use Rattle.feed_load.specs.LinearTimes.{is_timed_at, untimed_before}
use Rattle.feed_load.proofs.linear_times.next_timed.Given as goal

abbrev pub invariant-loop-row : goal.invariant-loop-row
invariant-loop-row l = record {
  untimed : l.untimed ≡ untimed_before l.rows l.row-index;
  none : (j : ℕ) → j < l.row-index → is_timed_at l.rows j ≡ false;
}
