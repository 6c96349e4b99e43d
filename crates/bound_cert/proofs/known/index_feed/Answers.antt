use Rattle.std.proofs.Common.{List, ℕ, [], fold, ap, ◌∙◌}
use Rattle.bound_cert.specs.Known.{point_escapes, stop_escapes, trip_escapes}
use Rattle.bound_cert.proofs.KnownIds.{escaped_ids}
use Rattle.feed_meaning.specs.Noted.{noted}
use Rattle.feed_meaning.proofs.NamedLists.{noted_of_ids}
use Rattle.flex_model.specs.declared.place.Point.{Point}
use Rattle.flex_model.specs.declared.place.Stop.{Stop}
use Rattle.flex_model.specs.declared.trip.Trip.{Trip}
use Rattle.bound_cert.proofs.known.index_feed.Goals as goal

pub returns-clause-known : goal.returns-clause-known
returns-clause-known c =
    let feed = c.args.feed.now in
    let times = c.args.times.now in
    let all = λ (texts : List (List ℕ)). fold noted [] texts in
    record {
      sound = c.requires.feed;
      stops = c.in_ok-stops.ensures ∙ ap all (c.as_slice.ensures ∙ c.requires.escapes.stops)
          ∙ noted_of_ids (stop_escapes feed) (escaped_ids (λ (stop : Stop). stop.id) feed.stops c.requires.held.stops c.requires.feed.stops.ids);
      points = c.in_ok-points.ensures ∙ ap all (c.as_slice-2.ensures ∙ c.requires.escapes.points)
          ∙ noted_of_ids (point_escapes times) (escaped_ids (λ (point : Point). point.id) times.points c.requires.held.points c.requires.times.ids);
      trips = c.in_ok-trips.ensures ∙ ap all (c.as_slice-3.ensures ∙ c.requires.escapes.trips)
          ∙ noted_of_ids (trip_escapes feed) (escaped_ids (λ (trip : Trip). trip.id) feed.trips c.requires.held.trips c.requires.feed.trips.ids);
      places = c.has_place.ensures;
      rides = c.has_ride.ensures;
    }
