use Rattle.std.proofs.Common.{[], ◌∷◌, ◌++◌, sym, subst}
use Rattle.std.specs.List.{AllZip}
use Rattle.std.proofs.lemmas.Slice.Zip.{all_zipped_more}
use Rattle.feed_load.specs.WholeTrips.{IsWhole}
use Rattle.feed_load.proofs.whole_trips.whole_trips.Goals as goal

pub loop-trip-preserved : goal.loop-trip-preserved
loop-trip-preserved c =
    subst (AllZip IsWhole (c.loop-trip.yielded ++ c.in-Some.trip ∷ [])) (sym c.in_ok-push.ensures.ok)
    (all_zipped_more IsWhole c.loop-trip.yielded c.loop-trip.trips c.in-Some.trip c.in_ok-whole_trip.field-0 c.loop-trip.invariant c.in_ok-whole_trip.ensures)
