use Rattle.std.proofs.Common.{◌∙◌, sym}
use Rattle.feed_rules.proofs.NotedSequences.{new-noted, none_of, repeated-noted, some_of, unnumbered-noted}
use Rattle.feed_rules.proofs.sequences.note_first.Goals as goal

pub returns-in_default : goal.returns-in_default
returns-in_default c = λ records r holds trip number departs. unnumbered-noted c.args.order.now records r holds (sym number ∙ c.in_default.is)

pub returns-then-contains_key : goal.returns-then-contains_key
returns-then-contains_key c = λ records r holds trip number departs.
    let there = some_of _ (sym c.contains_key.ensures ∙ c.if-contains_key.true) in
    repeated-noted c.args.order.now records r holds (c.args.trip, c.in-Some.number) trip (sym number ∙ c.in-Some.is) there.0 there.1

pub returns : goal.returns
returns c = λ records r holds trip number departs.
    new-noted c.args.order.now records r holds (c.args.trip, c.in-Some.number) trip (sym number ∙ c.in-Some.is) c.insert.new.self c.args.departs
    (none_of _ (sym c.contains_key.ensures ∙ c.if-contains_key.false)) c.in_ok-insert.ensures.updates.0 departs
