use Rattle.std.proofs.Common.{◌∙◌, arith, sym}
use Rattle.feed_rules.proofs.NotedSequences.{after-forward, taken-after}
use Rattle.feed_rules.proofs.SequenceFacts.{unnumbered-after}
use Rattle.feed_rules.proofs.sequences.has_after.Goals as goal

pub range-requires : goal.range-requires
range-requires c = after-forward c.args.trip c.in-Some.number (omega arith)

pub returns-in_default : goal.returns-in_default
returns-in_default c = λ records r holds trip number. sym (unnumbered-after records r (sym number ∙ c.in_default.is))

pub returns : goal.returns
returns c = λ records r holds trip number.
    taken-after c.args.order.now records r holds c.args.trip c.in-Some.number trip (sym number ∙ c.in-Some.is) _ _ _ _ (c.range.ensures.in_range tt) c.next_back.ensures.steps c.is_some.ensures
