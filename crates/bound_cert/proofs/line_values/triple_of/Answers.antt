use Rattle.std.proofs.Common.{◌∙◌, sym}
use Rattle.bound_cert.proofs.WordsTold.{short_triple, triple_same, triple_told}
use Rattle.bound_cert.proofs.line_values.triple_of.Goals as goal

pub returns-in_default : goal.returns-in_default
returns-in_default c = short_triple c.args.walking c.args.words.now c.in_default.len_below

pub returns : goal.returns
returns c =
    c.triple_from.ensures
    ∙ triple_same _ _ _ _ _ _ _ _ (c.ok-deadline.ensures.value ∙ c.read_deadline.ensures) (c.ok-arrival.ensures.value ∙ c.read_moment.ensures.value) c.transfers_of.ensures c.walk_of.ensures
    ∙ sym (triple_told c.args.walking c.args.words.now _ c.in-len4-up.len_at_least c.if-ne.ensures)
