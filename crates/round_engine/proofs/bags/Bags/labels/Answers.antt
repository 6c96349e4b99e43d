use Rattle.std.proofs.Common.{◌<◌, [], length, sym, ◌∙◌, ap, subst}
use Rattle.std.proofs.lemmas.List.{get_or_default}
use Rattle.label_bag.specs.Bag.{IsBag}
use Rattle.round_engine.specs.Bags.{bag_at}
use Rattle.round_engine.proofs.bags.Bags.labels.Goals as goal

pub returns-clause-apart : goal.returns-clause-apart
returns-clause-apart c =
    let within : c.args.at < length c.self.inside.bags.items = subst (λ these. c.args.at < length these) (sym c.self.view_is) c.requires in
    subst IsBag (c.index-bag.ensures ∙ get_or_default c.self.inside.bags.items c.args.at c.index-bag.result.now [] within ∙ ap (λ these. bag_at these c.args.at) c.self.view_is) c.pairs.ensures.apart
