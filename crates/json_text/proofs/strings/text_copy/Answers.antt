use Rattle.std.proofs.Common.{arith, rules}
use Rattle.json_text.proofs.Quoted.{string_facts}
use Rattle.json_text.proofs.strings.text_copy.Goals as goal

pub overflow_sub-row : goal.overflow_sub-row
overflow_sub-row c = omega (arith, (string_facts c.args.text.now c.args.row.place _ (c.requires (search rules))).order)
