use Rattle.flexplan.proofs.OneZone.{plain_one}
use Rattle.flexplan.proofs.laws.plain_zones_are_one.Goals as goal

pub returns : goal.returns
returns c = plain_one
