use Rattle.std.proofs.Common.{◌∙◌, sym}
use Rattle.feed_meaning.proofs.IdFacts.{given-from_length}
use Rattle.feed_rules.proofs.PairFacts.{both-given, inserted}
use Rattle.feed_rules.proofs.keys.note_pair.Goals as goal

pub returns-clause-noted : goal.returns-clause-noted
returns-clause-noted g c = λ q.
    inserted g.T.PartialEq.eq g.met.T.Eq.laws.congr c.args.met.now.keys c.insert.new.self.keys (c.args.first, c.in-Some.second) _ q c.in_ok-is_new.ensures.keys
    (both-given c.args.first.now c.args.second c.in-Some.second (given-from_length c.args.first.now (sym c.is_empty.ensures ∙ c.if-is_empty.false)) c.in-Some.is)
