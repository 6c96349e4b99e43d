use Rattle.std.proofs.Common.{rules, ap}
use Rattle.std.specs.Ordering.{is_lt}
use Rattle.std.proofs.lemmas.Fn.{always_returns_same}
use Rattle.cert_check.proofs.PlaceOrder.{by_place_from_sort, label_less, label_order}
use Rattle.cert_check.proofs.labels.by_place.Goals as goal

pub returns-clause-sorted : goal.returns-clause-sorted
returns-clause-sorted c =
    by_place_from_sort c.sort_by.new.self.items
    (c.in_ok-sort_by.ensures.sorted label_less label_order (always_returns_same _ _ _ (λ a r g called. (ap is_lt (search rules), search rules))))
