use Rattle.json_text.proofs.moves.after_part.Goals as goal

pub returns-in-Square : goal.returns-in-Square
returns-in-Square c = λ stack. rw c.in-Square.is (c.after_item.ensures stack)

pub returns-in-Curly : goal.returns-in-Curly
returns-in-Curly c = λ stack. rw c.in-Curly.is (c.after_member.ensures stack)
