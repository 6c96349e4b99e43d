use Rattle.std.proofs.Common.{◌↔◌, IsTrue, ◌∙◌, subst}
use Rattle.label_bag.specs.Bag.{HasCovering}
use Rattle.label_bag.proofs.bag.Bag.is_covered.Goals as goal

pub returns : goal.returns
returns g c =
    subst (λ these. IsTrue c.is_covered.result ↔ HasCovering these c.args.pair.now) (c.as_slice.ensures.value ∙ c.self.view_is) c.is_covered.ensures
