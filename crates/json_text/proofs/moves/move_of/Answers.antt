use Rattle.json_text.proofs.moves.move_of.Goals as goal

pub returns-in-BeforeValue : goal.returns-in-BeforeValue
returns-in-BeforeValue c = λ stack _. rw c.in-BeforeValue.is (c.before_value.ensures stack)

pub returns-in-AfterOpenArray : goal.returns-in-AfterOpenArray
returns-in-AfterOpenArray c = λ stack _. rw c.in-AfterOpenArray.is (c.after_open_array.ensures stack)

pub returns-in-AfterOpenObject : goal.returns-in-AfterOpenObject
returns-in-AfterOpenObject c = λ stack _. rw c.in-AfterOpenObject.is (c.after_open_object.ensures stack)

pub returns-in-BeforeName : goal.returns-in-BeforeName
returns-in-BeforeName c = λ stack _. rw c.in-BeforeName.is (c.before_name.ensures stack)

pub returns-in-AfterName : goal.returns-in-AfterName
returns-in-AfterName c = λ stack _. rw c.in-AfterName.is (c.after_name.ensures stack)

pub returns-in-InString : goal.returns-in-InString
returns-in-InString c = λ stack _. rw c.in-InString.is (c.in_string.ensures stack)

pub returns-in-AfterBackslash : goal.returns-in-AfterBackslash
returns-in-AfterBackslash c = λ stack _. rw c.in-AfterBackslash.is (c.after_backslash.ensures stack)

pub returns-in-InUnit : goal.returns-in-InUnit
returns-in-InUnit c = λ stack _. rw c.in-InUnit.is (c.in_unit.ensures stack)

pub returns-in-AfterMinus : goal.returns-in-AfterMinus
returns-in-AfterMinus c = λ stack _. rw c.in-AfterMinus.is (c.after_minus.ensures stack)

pub returns-in-AfterPoint : goal.returns-in-AfterPoint
returns-in-AfterPoint c = λ stack _. rw c.in-AfterPoint.is (c.after_point.ensures stack)

pub returns-in-AfterExponent : goal.returns-in-AfterExponent
returns-in-AfterExponent c = λ stack _. rw c.in-AfterExponent.is (c.after_exponent.ensures stack)

pub returns-in-AfterSign : goal.returns-in-AfterSign
returns-in-AfterSign c = λ stack _. rw c.in-AfterSign.is (c.after_sign.ensures stack)
