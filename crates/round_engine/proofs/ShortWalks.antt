-- An attained label arrives by the limit, and its walk is short.
use Rattle.std.proofs.Common.{◌≡◌, ℕ, ◌*◌, ◌≤◌, ◌≤ℤ◌, subst, arith}
use Rattle.flex_model.specs.Journey.{counted, limit}
use Rattle.flex_model.proofs.Walks.{if_no_more, short_walks}
use Rattle.round_engine.specs.declared.label.Label.{Label}
use Rattle.round_engine.specs.declared.task.Task.{Task}
use Rattle.round_engine.specs.Attained.{IsInTime, IsLabel, IsSoundTask}
use Rattle.round_engine.specs.Chain.{pair_of, rides_of, round_of}
use Rattle.round_engine.proofs.MadeLabels.{table_label}

pub in_time : (task : Task) → IsSoundTask task → (k : ℕ) (label : Label) → IsLabel task k label → IsInTime task label
in_time task sound k label is =
    let query = task.query.now in
    let short : (pair_of label).walk ≤ counted query (86400 * k) =
    (short_walks task.feed.now task.times.now task.days.now query sound.feed sound.times).1 k (table_label label) (rides_of label, is.count, is.reaches) in
    let no_more = if_no_more query.walking (86400 * k) in
    let round : round_of label ≡ k = is.round in
    record {
      arrival = subst (λ n. n ≤ℤ limit query) is.reaches.arrives is.reaches.journey.arrives;
      walk = omega arith;
    }
