use Rattle.std.proofs.Common.{◌∙◌, rules}
use Rattle.feed_load.proofs.ChangeOrder.{rising_from_sort_by_key}
use Rattle.feed_load.proofs.changes.in_order.Goals as goal

pub returns : goal.returns
returns c = λ ordered.
    c.from_vec.ensures
    ∙ rising_from_sort_by_key c.args.changes.items c.sort_by_key.new.self.items c.in_ok-sort_by_key.ensures.permutation ordered c.in_ok-sort_by_key.ensures.sorted (λ a r q k. search rules)
