use Rattle.std.proofs.Common.{[], fold, map, refl, ◌∙◌, ap}
use Rattle.feed_meaning.specs.Noted.{noted}
use Rattle.feed_meaning.proofs.NamedLists.{noted_of_ids}
use Rattle.query_io.proofs.query_places.place_ids.Goals as goal

pub returns : goal.returns
returns c = record {
  sound = c.requires.feed;
  feed_is = refl;
  stops = c.in_ok-stops.ensures ∙ ap (λ stops. fold noted [] (map (λ stop. stop.id) stops)) c.as_slice.ensures ∙ noted_of_ids (map (λ stop. stop.id) c.args.feed.now.stops) c.requires.feed.stops.ids;
  points = c.in_ok-points.ensures ∙ ap (λ points. fold noted [] (map (λ point. point.id) points)) c.as_slice-2.ensures ∙ noted_of_ids (map (λ point. point.id) c.args.times.now.points) c.requires.times.ids;
}
