use Rattle.std.proofs.Common.{refl, None, Some, sym, ◌∙◌}
use Rattle.place_times.proofs.PlaceFacts.{found_point, found_stop}
use Rattle.place_times.proofs.places.place_named.Goals as goal

pub returns-in-Some : goal.returns-in-Some
returns-in-Some c = λ feed points are. found_stop feed points c.args.ids.now are c.args.text.now c.in-Some.stop (sym c.in-Some.is ∙ c.index_of.ensures)

pub returns-in-Some-index_of : goal.returns-in-Some-index_of
returns-in-Some-index_of c = λ feed points are.
    found_point feed points c.args.ids.now are c.args.text.now (sym c.in_default.is ∙ c.index_of.ensures) (Some c.in-Some-index_of.point) c.in-Some-index_of.point
    (sym c.in-Some-index_of.is ∙ c.index_of-2.ensures) refl

pub returns-in-None : goal.returns-in-None
returns-in-None c = λ feed points are.
    found_point feed points c.args.ids.now are c.args.text.now (sym c.in_default.is ∙ c.index_of.ensures) None 0 (sym c.in-None.is ∙ c.index_of-2.ensures) refl
