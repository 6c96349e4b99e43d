use Rattle.std.proofs.Common.{[], fold, map, refl, ◌∙◌, ap}
use Rattle.feed_meaning.specs.Noted.{noted}
use Rattle.feed_meaning.proofs.NamedLists.{noted_of_ids}
use Rattle.place_times.proofs.places.place_ids.Goals as goal

pub returns : goal.returns
returns c = record {
  sound = c.requires.feed;
  feed_is = refl;
  stop_ids = c.in_ok-stops.ensures ∙ ap (λ stops. fold noted [] (map (λ stop. stop.id) stops)) c.as_slice.ensures ∙ noted_of_ids (map (λ stop. stop.id) c.args.feed.now.stops) c.requires.feed.stops.ids;
  point_ids = c.in_ok-points.ensures ∙ noted_of_ids (map (λ point. point.id) c.args.points.now) c.requires.points;
}
