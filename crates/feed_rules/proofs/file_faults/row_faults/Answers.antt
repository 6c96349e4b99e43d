use Rattle.std.proofs.Common.{sym, ◌∙◌, rules}
use Rattle.feed_meaning.specs.Tables.{entries_of}
use Rattle.feed_rules.proofs.LevelFacts.{no_record_faults}
use Rattle.feed_rules.proofs.file_faults.row_faults.Goals as goal

pub returns-in_default : goal.returns-in_default
returns-in_default c = c.new.ensures ∙ sym (no_record_faults c.args.file (search rules) (entries_of c.args.table.now))
