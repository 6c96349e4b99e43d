use Rattle.std.proofs.Common.{◌≡◌, [], map, take}
use Rattle.feed_meaning.specs.FeedValue.{service_of}
use Rattle.feed_load.specs.Calendars.{calendars}
use Rattle.feed_load.proofs.weeks.bare_services.Given as goal

abbrev pub invariant-loop-index : goal.invariant-loop-index
invariant-loop-index l = l.services.items ≡ map (service_of (calendars [] [])) (take l.index l.ids)
