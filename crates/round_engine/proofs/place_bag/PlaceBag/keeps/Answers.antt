use Rattle.std.proofs.Common.{sym, subst}
use Rattle.round_engine.specs.Bags.{IsKept}
use Rattle.round_engine.proofs.Kept.{kept_is_covered}
use Rattle.round_engine.proofs.place_bag.PlaceBag.keeps.Goals as goal

pub returns : goal.returns
returns c =
    let both = kept_is_covered c.self.inside.labels c.args.pair.now in (
      λ e. subst (λ these. IsKept these c.args.pair.now) c.self.view_is (both.0 (c.is_covered.ensures.0 e)),
      λ kept. c.is_covered.ensures.1 (both.1 (subst (λ these. IsKept these c.args.pair.now) (sym c.self.view_is) kept)),
    )
