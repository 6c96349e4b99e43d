use Rattle.std.proofs.Common.{◌≢◌, List, [], All, sym, subst}
use Rattle.flex_model.specs.declared.place.Point.{Point}
use Rattle.flex_model.specs.declared.place.Stop.{Stop}
use Rattle.flex_model.specs.declared.trip.Trip.{Trip}
use Rattle.bound_cert.proofs.KnownIds.{each_given}
use Rattle.bound_cert.proofs.known.all_escapes.Goals as goal

pub stop_escapes-requires : goal.stop_escapes-requires
stop_escapes-requires c =
    subst (λ (z : List Stop). All (λ stop. stop.id ≢ []) z) (sym c.as_slice.ensures) (each_given (λ (stop : Stop). stop.id) c.args.feed.now.stops c.requires.feed.stops.ids.given)

pub point_escapes-requires : goal.point_escapes-requires
point_escapes-requires c =
    subst (λ (z : List Point). All (λ point. point.id ≢ []) z) (sym c.as_slice-2.ensures) (each_given (λ (point : Point). point.id) c.args.times.now.points c.requires.times.ids.given)

pub trip_escapes-requires : goal.trip_escapes-requires
trip_escapes-requires c =
    subst (λ (z : List Trip). All (λ trip. trip.id ≢ []) z) (sym c.as_slice-3.ensures) (each_given (λ (trip : Trip). trip.id) c.args.feed.now.trips c.requires.feed.trips.ids.given)
