use Rattle.std.proofs.Common.{◌-◌, length, string_bytes}
use Rattle.json_text.specs.Unescaping.{IsUnescaping}
use Rattle.json_text.proofs.unescape.unescape.Given as goal

abbrev pub invariant-loop-from : goal.invariant-loop-from
invariant-loop-from l = IsUnescaping l.raw l.from (string_bytes l.text)

abbrev pub decreases-loop-from : goal.decreases-loop-from
decreases-loop-from l = length l.bytes - l.from
