use Rattle.service_days.proofs.ZoneTables.{utc_is_zone}
use Rattle.service_days.proofs.zone.utc_zone.Goals as goal

pub invariant_of-result : goal.invariant_of-result
invariant_of-result c = utc_is_zone
