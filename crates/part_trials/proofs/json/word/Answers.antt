use Rattle.std.proofs.Common.{rules}
use Rattle.json_text.proofs.KindFacts.{has_string}
use Rattle.part_trials.proofs.json.word.Goals as goal

pub text_of-requires : goal.text_of-requires
text_of-requires c = has_string _ _ c.kind.result c.root-root.ensures.node c.kind.ensures (search rules)
