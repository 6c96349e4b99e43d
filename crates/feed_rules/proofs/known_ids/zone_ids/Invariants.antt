use Rattle.std.proofs.Common.{◌≡◌, [], fold, map, take}
use Rattle.feed_meaning.specs.Noted.{noted}
use Rattle.feed_rules.proofs.known_ids.zone_ids.Given as goal

abbrev pub invariant-loop-zone : goal.invariant-loop-zone
invariant-loop-zone l = l.ids ≡ fold noted [] (map (λ zone. zone.id) (take l.zone-index l.zone-items))
