use Rattle.std.proofs.Common.{◌∙◌, ◌∷◌, ap, sym}
use Rattle.geo_json.proofs.positions.first_two.Goals as goal

pub returns-clause-items : goal.returns-clause-items
returns-clause-items c = λ j of.
    (c.next-2.new.self, sym (c.items-items.ensures.value j of) ∙ c.in_ok-first.ensures.steps ∙ ap (λ more. c.in_ok-first.first ∷ more) c.in_ok-second.ensures.steps)
