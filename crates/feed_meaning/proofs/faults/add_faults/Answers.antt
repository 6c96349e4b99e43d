use Rattle.std.proofs.Common.{◌∙◌, sym, Some, None}
use Rattle.std.proofs.lemmas.List.{append-nil}
use Rattle.feed_meaning.proofs.Passes.{added_more}
use Rattle.feed_meaning.proofs.faults.add_faults.Goals as goal
use Rattle.feed_meaning.proofs.faults.add_faults.Goals.{in-Some+in_ok-push, in_default}

pub loop-rule-preserved : goal.loop-rule-preserved
loop-rule-preserved c = elim c.match-rule.branch [
  | in-Some+in_ok-push w ↦ added_more _ _ _ _ _ _ _ (Some w.in-Some.code) c.loop-rule-test.true w.in-Some.is c.loop-rule.invariant (w.faults-is ∙ w.in_ok-push.ensures.ok)
  | in_default w ↦ added_more _ _ _ _ _ _ _ None c.loop-rule-test.true w.in_default.is c.loop-rule.invariant (w.faults-is ∙ sym (append-nil _))
]
