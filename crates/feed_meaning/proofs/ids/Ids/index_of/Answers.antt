use Rattle.std.proofs.Common.{◌∙◌, sym, ap}
use Rattle.std.specs.List.{position}
use Rattle.std.specs.Str.{bytes_eq}
use Rattle.feed_meaning.proofs.IdFacts.{position-map}
use Rattle.feed_meaning.proofs.ids.Ids.index_of.Goals as goal

pub returns-in-Some : goal.returns-in-Some
returns-in-Some c =
    let text = c.args.text.now in
    sym c.in-Some.is ∙ c.get_index_of.ensures.index ∙ sym (position-map (λ k. k.now) (bytes_eq text) c.self.inside.set.keys) ∙ ap (position (bytes_eq text)) c.self.view_is

pub returns-in-None : goal.returns-in-None
returns-in-None c =
    let text = c.args.text.now in
    sym c.in-None.is ∙ c.get_index_of.ensures.index ∙ sym (position-map (λ k. k.now) (bytes_eq text) c.self.inside.set.keys) ∙ ap (position (bytes_eq text)) c.self.view_is
