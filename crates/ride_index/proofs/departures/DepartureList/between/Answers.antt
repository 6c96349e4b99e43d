-- The list is the one that contracts see.
use Rattle.std.proofs.Common.{◌↔◌, ◌∙◌, Contains, subst}
use Rattle.ride_index.specs.Departures.{IsWithin}
use Rattle.ride_index.proofs.departures.DepartureList.between.Goals as goal

pub returns : goal.returns
returns c = λ departure.
    subst (λ xs. Contains c.slice_between.result.now departure ↔ (Contains xs departure × IsWithin c.args.named c.args.from c.args.until departure))
    (c.as_slice.ensures ∙ c.self.view_is) (c.slice_between.ensures departure)
