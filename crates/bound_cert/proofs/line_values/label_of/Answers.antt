use Rattle.std.proofs.Common.{◌∙◌, sym}
use Rattle.bound_cert.proofs.WordsTold.{label_same, label_told, short_label}
use Rattle.bound_cert.proofs.line_values.label_of.Goals as goal

pub returns-in_default : goal.returns-in_default
returns-in_default c = short_label c.args.known.now.feed.now c.args.known.now.times.now c.args.walking c.args.words.now c.in_default.len_below

pub returns : goal.returns
returns c =
    c.label_from.ensures
    ∙ label_same _ _ _ _ _ _ _ _ c.place_of.ensures (c.ok-deadline.ensures.value ∙ c.read_deadline.ensures) (c.ok-arrival.ensures.value ∙ c.read_moment.ensures.value) c.walk_of.ensures
    ∙ sym (label_told c.args.known.now.feed.now c.args.known.now.times.now c.args.walking c.args.words.now _ c.in-len4-up.len_at_least c.if-ne.ensures)
