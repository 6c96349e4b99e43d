use Rattle.std.proofs.Common.{Contains, sym, subst}
use Rattle.round_engine.specs.Bags.{bag_at}
use Rattle.round_engine.proofs.bags.Bags.marked.Goals as goal

pub returns-clause-whole : goal.returns-clause-whole
returns-clause-whole c = λ i entry among.
    subst (λ these. Contains these i) (sym c.as_slice.ensures.value)
    (c.self.invariant.whole i entry (subst (λ these. Contains (bag_at these i) entry) (sym c.self.view_is) among))
