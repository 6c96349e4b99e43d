use Rattle.service_days.proofs.ZoneAnswers.{posix-broken}
use Rattle.service_days.proofs.reading.read_posix.Goals as goal

pub returns-in_default : goal.returns-in_default
returns-in_default c = posix-broken c.args.bytes.now c.in_default.ensures.cases.0
