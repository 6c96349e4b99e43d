use Rattle.std.proofs.Common.{sym, ◌∙◌}
use Rattle.feed_meaning.proofs.IdFacts.{given-from_length}
use Rattle.place_times.proofs.PairFacts.{both-given, inserted, repeated_key}
use Rattle.place_times.proofs.pairs.note_pair.Goals as goal

pub returns-clause-repeated : goal.returns-clause-repeated
returns-clause-repeated c =
    repeated_key c.args.met.now.keys (c.args.from, c.args.to) _ c.in_ok-is_new.is_new
    (both-given c.args.from.now c.args.to.now (given-from_length c.args.from.now (sym c.is_empty.ensures ∙ c.if-is_empty.false))
    (given-from_length c.args.to.now (sym c.is_empty-2.ensures ∙ c.if-is_empty-2.false))) c.in_ok-is_new.ensures.added

pub returns-clause-noted : goal.returns-clause-noted
returns-clause-noted c =
    inserted c.args.met.now.keys c.insert.new.self.keys (c.args.from, c.args.to) _ c.in_ok-is_new.ensures.keys
    (both-given c.args.from.now c.args.to.now (given-from_length c.args.from.now (sym c.is_empty.ensures ∙ c.if-is_empty.false))
    (given-from_length c.args.to.now (sym c.is_empty-2.ensures ∙ c.if-is_empty-2.false)))
