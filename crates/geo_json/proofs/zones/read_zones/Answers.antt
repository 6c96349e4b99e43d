use Rattle.std.proofs.Common.{Err, subst, sym}
use Rattle.feed_meaning.specs.Locations.{zones_of_scan}
use Rattle.geo_json.specs.Zones.{AreZones}
use Rattle.geo_json.proofs.Found.{refusal_found, zones_found}
use Rattle.geo_json.proofs.zones.read_zones.Goals as goal

pub returns-in-Ok-clause-zones : goal.returns-in-Ok-clause-zones
returns-in-Ok-clause-zones c = λ scan is. zones_found c.args.text.now scan c.in-Ok.zones (c.in-Ok.ensures.faults scan is) (c.in-Ok.ensures.value scan is)

pub returns-in-Err-clause-zones : goal.returns-in-Err-clause-zones
returns-in-Err-clause-zones c = λ scan is.
    subst (λ r. AreZones (zones_of_scan c.args.text.now scan) (Err r)) (sym c.located.ensures) (refusal_found c.args.text.now scan c.in-Err.refusal (c.in-Err.ensures.faults scan is))
