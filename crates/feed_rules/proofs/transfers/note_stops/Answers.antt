use Rattle.std.proofs.Common.{◌≡◌, ◌∙◌, Some, ap, not, sym}
use Rattle.std.specs.Str.{bytes_eq}
use Rattle.field_text.specs.Grammars.{id}
use Rattle.feed_meaning.specs.Rules.{both}
use Rattle.feed_meaning.proofs.IdFacts.{given-from_length, not-not}
use Rattle.feed_rules.specs.Pairs.{has_some_pair}
use Rattle.feed_rules.specs.Transfers.{texts_of}
use Rattle.feed_rules.proofs.ChangeFacts.{both_given, stops_found, stops_inserted}
use Rattle.feed_rules.proofs.transfers.note_stops.Goals as goal

pub returns-clause-repeated : goal.returns-clause-repeated
returns-clause-repeated c =
    let given : both (id c.args.from.now) (id c.args.to.now) ≡ Some (c.args.from.now, c.args.to.now) =
    both_given c.args.from.now c.args.to.now (given-from_length c.args.from.now (sym c.is_empty.ensures ∙ c.if-is_empty.false))
    (given-from_length c.args.to.now (sym c.is_empty-else-is_empty.ensures ∙ c.if-is_empty-2.false)) in
    ap not c.in_ok-is_new.ensures.added ∙ not-not _ ∙ stops_found c.args.met.now.keys c.args.from c.args.to
    ∙ sym (ap (has_some_pair bytes_eq (texts_of c.args.met.now.keys)) given)

pub returns-clause-noted : goal.returns-clause-noted
returns-clause-noted c = λ q.
    stops_inserted c.args.met.now.keys c.insert.new.self.keys c.args.from c.args.to _ q c.in_ok-is_new.ensures.keys
    (both_given c.args.from.now c.args.to.now (given-from_length c.args.from.now (sym c.is_empty.ensures ∙ c.if-is_empty.false))
    (given-from_length c.args.to.now (sym c.is_empty-else-is_empty.ensures ∙ c.if-is_empty-2.false)))
