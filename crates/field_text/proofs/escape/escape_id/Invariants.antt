use Rattle.std.proofs.Common.{◌≡◌, ◌≤◌, ◌++◌, length, take}
use Rattle.percent_encoding.specs.Iter.{encoded_text}
use Rattle.percent_encoding.specs.Percent.{percent_encode}
use Rattle.field_text.specs.declared.escape.TheConstants.{ESCAPED}
use Rattle.field_text.proofs.escape.escape_id.Given as goal

abbrev pub invariant-loop-piece : goal.invariant-loop-piece
invariant-loop-piece l = record {
  appended : l.into ++ encoded_text l.piece-iterator ≡ l.initial.into ++ percent_encode ESCAPED l.id;
  kept : take l.old_len l.into ≡ l.initial.into;
  within : l.old_len ≤ length l.into;
}
