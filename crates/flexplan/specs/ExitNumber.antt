-- The number of each status, by which the program ends (this project's own).
use Rattle.std.specs.Prelude.{ℕ}
use Rattle.flexplan.specs.declared.status.Status.{Status}
use Rattle.flexplan.specs.declared.status.Status.TheVariants.{Done, Usage, FeedFaulty, TimesFaulty, QueriesFaulty, CertRefused, ReadFault, WriteFault, NoMemory}

abbrev pub exit_number : Status → ℕ
exit_number Done = 0
exit_number Usage = 1
exit_number FeedFaulty = 2
exit_number TimesFaulty = 3
exit_number QueriesFaulty = 4
exit_number CertRefused = 5
exit_number ReadFault = 6
exit_number WriteFault = 7
exit_number NoMemory = 8
