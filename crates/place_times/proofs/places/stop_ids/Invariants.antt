use Rattle.std.proofs.Common.{◌≡◌, [], fold, map, take}
use Rattle.feed_meaning.specs.Noted.{noted}
use Rattle.place_times.proofs.places.stop_ids.Given as goal

abbrev pub invariant-loop-stop : goal.invariant-loop-stop
invariant-loop-stop l = l.ids ≡ fold noted [] (map (λ stop. stop.id) (take l.stop-index l.stops))
