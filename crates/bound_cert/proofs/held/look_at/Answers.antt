use Rattle.std.proofs.Common.{◌<◌, ◌^◌, List, All, IsUtf8, subst}
use Rattle.flex_model.specs.declared.place.Point.{Point}
use Rattle.flex_model.specs.declared.place.Stop.{Stop}
use Rattle.flex_model.specs.declared.trip.Trip.{Trip}
use Rattle.bound_cert.proofs.held.look_at.Goals as goal

pub returns : goal.returns
returns c = record {
  stops = subst (λ (z : List Stop). All (λ stop. IsUtf8 stop.id) z) c.as_slice.ensures c.look_at_stops.ensures;
  points = subst (λ (z : List Point). All (λ point. IsUtf8 point.id) z) c.as_slice-2.ensures c.look_at_points.ensures;
  trips = subst (λ (z : List Trip). All (λ trip. IsUtf8 trip.id) z) c.as_slice-3.ensures c.look_at_trip_ids.ensures;
  sequences = subst (λ (z : List Trip). All (λ trip. All (λ row. row.sequence < 2 ^ 32) trip.rows) z) c.as_slice-4.ensures c.look_at_trip_rows.ensures;
}
