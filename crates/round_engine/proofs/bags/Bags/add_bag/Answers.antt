use Rattle.std.proofs.Common.{rules, ◌≡◌, ◌++◌, ◌∷◌, [], sym, subst}
use Rattle.round_engine.specs.Bags.{AreMarked}
use Rattle.round_engine.proofs.MarkedBags.{marked_more}
use Rattle.round_engine.proofs.bags.Bags.add_bag.Goals as goal

pub invariant_of-self-2 : goal.invariant_of-self-2
invariant_of-self-2 c =
    let e : c.push.new.self.items ≡ c.self.inside.bags.items ++ [] ∷ [] = search rules in
    subst (λ bags. AreMarked bags c.self.inside.marked.items) (sym e) (marked_more c.self.inside.bags.items c.self.inside.marked.items c.self.invariant)
