use Rattle.std.proofs.Common.{◌≡◌, ◌++◌, take}
use Rattle.field_text.specs.Grammars.{escape}
use Rattle.query_io.proofs.lines.is_escape_of.Given as goal

abbrev pub invariant-loop-byte : goal.invariant-loop-byte
invariant-loop-byte l = l.text ≡ escape (take l.byte-index l.id) ++ l.rest
