use Rattle.std.proofs.Common.{◌∙◌, ◌&&◌, not, sym, ap, map}
use Rattle.std.specs.List.{list_any}
use Rattle.std.specs.Str.{bytes_eq}
use Rattle.feed_meaning.specs.Noted.{noted}
use Rattle.feed_meaning.proofs.IdFacts.{given-from_length, insert_key-noted, list_any-map, not-not}
use Rattle.feed_meaning.proofs.ids.Ids.note.Goals as goal

pub returns-clause-repeated : goal.returns-clause-repeated
returns-clause-repeated c =
    let text = c.args.text.now in
    let given = given-from_length text (sym c.is_empty.ensures ∙ c.if-is_empty.false) in
    ap not c.in_ok-is_new.ensures.added ∙ not-not _ ∙ sym (list_any-map (λ k. k.now) (bytes_eq text) c.self.inside.set.keys)
    ∙ ap (λ ids. list_any (bytes_eq text) ids) c.self.view_is ∙ ap (λ g. g && list_any (bytes_eq text) c.args.self.now) (sym given)

pub returns-clause-noted : goal.returns-clause-noted
returns-clause-noted c =
    let given = given-from_length c.args.text.now (sym c.is_empty.ensures ∙ c.if-is_empty.false) in
    ap (map (λ k. k.now)) c.in_ok-is_new.ensures.keys ∙ insert_key-noted c.self.inside.set.keys c.args.text given ∙ ap (λ ids. noted ids c.args.text.now) c.self.view_is
