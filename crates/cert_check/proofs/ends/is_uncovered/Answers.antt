use Rattle.std.proofs.Common.{◌≡◌, Bool, true, false, not, refl, subst}
use Rattle.flex_model.specs.Answer.{triples}
use Rattle.flex_model.specs.LabelTable.{IsHeldByTriple}
use Rattle.cert_check.specs.Tasks.{pair_of_made}
use Rattle.cert_check.proofs.EndsFound.{end_covered}
use Rattle.cert_check.proofs.ends.is_uncovered.Goals as goal

from_not : (b : Bool) → not b ≡ false → b ≡ true
from_not true e = refl
from_not false e = cc

pub returns-clause-no : goal.returns-clause-no
returns-clause-no c = λ e.
    end_covered c.args.task.now c.args.label.now c.in-Some.made c.requires.round c.in-Some.ensures
    (subst (λ answers. IsHeldByTriple (triples answers) (pair_of_made c.in-Some.made) c.args.label.now.round) c.as_slice.ensures
    (c.is_held_by_answer.ensures.0 (from_not c.is_held_by_answer.result e)))
