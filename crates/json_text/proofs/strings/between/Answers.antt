use Rattle.std.proofs.Common.{◌∙◌, ap, ◌++◌, ◌∷◌, [], sym}
use Rattle.json_text.proofs.Quoted.{after_first, before_last, string_facts}
use Rattle.json_text.proofs.strings.between.Goals as goal

pub range-requires-clause-start_le_end : goal.range-requires-clause-start_le_end
range-requires-clause-start_le_end c = (string_facts c.args.text.now c.args.place c.args.last c.requires).order

pub range-requires-clause-start_boundary : goal.range-requires-clause-start_boundary
range-requires-clause-start_boundary c = λ _. after_first c.args.text.now c.args.place c.args.last c.utf8.text c.requires

pub range-requires-clause-end_boundary : goal.range-requires-clause-end_boundary
range-requires-clause-end_boundary c = before_last c.args.text.now c.args.place c.args.last c.requires

pub returns-clause-marks : goal.returns-clause-marks
returns-clause-marks c =
    (c.requires.0, (string_facts c.args.text.now c.args.place c.args.last c.requires).raw ∙ ap (λ z. z ++ (34 ∷ [])) (sym c.range.ensures.value))
