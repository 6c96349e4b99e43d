use Rattle.std.proofs.Common.{◌∙◌, sym, ap}
use Rattle.std.specs.List.{list_any}
use Rattle.std.specs.Str.{bytes_eq}
use Rattle.feed_meaning.proofs.IdFacts.{list_any-map}
use Rattle.feed_meaning.proofs.ids.Ids.has.Goals as goal

pub returns : goal.returns
returns c =
    let text = c.args.text.now in
    c.contains.ensures ∙ sym (list_any-map (λ k. k.now) (bytes_eq text) c.self.inside.set.keys) ∙ ap (λ ids. list_any (bytes_eq text) ids) c.self.view_is
