use Rattle.std.proofs.Common.{◌≡◌, [], fold, map, take}
use Rattle.feed_meaning.specs.Noted.{noted}
use Rattle.place_times.proofs.places.point_ids.Given as goal

abbrev pub invariant-loop-point : goal.invariant-loop-point
invariant-loop-point l = l.ids ≡ fold noted [] (map (λ point. point.id) (take l.point-index l.points))
