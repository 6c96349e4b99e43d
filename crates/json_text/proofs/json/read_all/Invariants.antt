use Rattle.json_text.specs.Reading.{IsReading}
use Rattle.json_text.proofs.json.read_all.Given as goal

abbrev pub invariant-loop-at : goal.invariant-loop-at
invariant-loop-at l = IsReading l.scanner l.bytes l.at
