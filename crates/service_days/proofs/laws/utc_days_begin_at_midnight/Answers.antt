use Rattle.service_days.proofs.ZoneTables.{utc_days}
use Rattle.service_days.proofs.laws.utc_days_begin_at_midnight.Goals as goal

pub returns : goal.returns
returns c = utc_days
