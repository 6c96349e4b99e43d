use Rattle.json_text.proofs.Quoted.{number_facts}
use Rattle.json_text.proofs.strings.number_text.Goals as goal

pub range-requires-clause-start_le_end : goal.range-requires-clause-start_le_end
range-requires-clause-start_le_end c = (number_facts c.args.text.now c.requires.0 c.args.place c.args.last c.requires.1 c.requires.2).order

pub range-requires-clause-start_boundary : goal.range-requires-clause-start_boundary
range-requires-clause-start_boundary c = λ _. (number_facts c.args.text.now c.requires.0 c.args.place c.args.last c.requires.1 c.requires.2).start

pub range-requires-clause-end_boundary : goal.range-requires-clause-end_boundary
range-requires-clause-end_boundary c = (number_facts c.args.text.now c.requires.0 c.args.place c.args.last c.requires.1 c.requires.2).end c.utf8.text
