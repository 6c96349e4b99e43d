use Rattle.json_text.specs.Content.{AreCopied}
use Rattle.json_text.proofs.json.strings_of.Given as goal

abbrev pub invariant-loop-row : goal.invariant-loop-row
invariant-loop-row l = AreCopied l.text l.rows l.texts l.names l.row-index
