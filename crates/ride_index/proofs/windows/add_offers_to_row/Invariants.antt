use Rattle.ride_index.specs.OfferedRuns.{GainsOffersOf}
use Rattle.ride_index.proofs.WindowOffers.{IsToFirst}
use Rattle.ride_index.proofs.windows.add_offers_to_row.Given as goal

abbrev pub invariant-loop-span : goal.invariant-loop-span
invariant-loop-span l = GainsOffersOf (IsToFirst l.wanted l.leg l.spans l.span-index) l.fn.into.items l.into.items
