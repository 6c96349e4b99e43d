use Rattle.std.proofs.Common.{◌∙◌, ap, sym}
use Rattle.std.specs.Option.{option_map}
use Rattle.feed_meaning.specs.FeedLinks.{departure}
use Rattle.feed_rules.proofs.NotedSequences.{range-forward, taken-nearest, untaken-nearest}
use Rattle.feed_rules.proofs.SequenceFacts.{nearest-none, unnumbered-before}
use Rattle.feed_rules.proofs.sequences.last_before.Goals as goal

pub range-requires : goal.range-requires
range-requires c = range-forward c.args.trip c.in-Some.number

pub returns-in_default-clause-nearest : goal.returns-in_default-clause-nearest
returns-in_default-clause-nearest c = λ records r holds trip number.
    ap (option_map departure) (sym (nearest-none records r (unnumbered-before records r (sym number ∙ c.in_default.is))))

pub returns-in_default-clause-some : goal.returns-in_default-clause-some
returns-in_default-clause-some c = λ records r holds trip number. sym (unnumbered-before records r (sym number ∙ c.in_default.is))

pub returns-in_default-next_back-clause-nearest : goal.returns-in_default-next_back-clause-nearest
returns-in_default-next_back-clause-nearest c = λ records r holds trip number.
    (untaken-nearest c.args.order.now records r holds c.args.trip c.in-Some.number trip (sym number ∙ c.in-Some.is) _ (c.range.ensures.in_range tt) c.in_default-next_back.ensures.steps.0).0

pub returns-in_default-next_back-clause-some : goal.returns-in_default-next_back-clause-some
returns-in_default-next_back-clause-some c = λ records r holds trip number.
    (untaken-nearest c.args.order.now records r holds c.args.trip c.in-Some.number trip (sym number ∙ c.in-Some.is) _ (c.range.ensures.in_range tt) c.in_default-next_back.ensures.steps.0).1

pub returns-clause-nearest : goal.returns-clause-nearest
returns-clause-nearest c = λ records r holds trip number.
    (taken-nearest c.args.order.now records r holds c.args.trip c.in-Some.number trip (sym number ∙ c.in-Some.is) _ _ _ _ (c.range.ensures.in_range tt) c.in-Some-next_back.ensures.steps).0

pub returns-clause-some : goal.returns-clause-some
returns-clause-some c = λ records r holds trip number.
    (taken-nearest c.args.order.now records r holds c.args.trip c.in-Some.number trip (sym number ∙ c.in-Some.is) _ _ _ _ (c.range.ensures.in_range tt) c.in-Some-next_back.ensures.steps).1
