use Rattle.std.proofs.Common.{[], ◌∷◌, ◌++◌, sym, subst}
use Rattle.std.specs.List.{AllZip}
use Rattle.std.proofs.lemmas.List.Elements.{AllZip-push}
use Rattle.feed_load.specs.GroupMembers.{IsRisingGroup}
use Rattle.feed_load.proofs.groups.rising_groups.Goals as goal

pub loop-group-preserved : goal.loop-group-preserved
loop-group-preserved c =
    subst (AllZip IsRisingGroup (c.loop-group.yielded ++ c.in-Some.group ∷ [])) (sym c.in_ok-push.ensures.ok)
    (AllZip-push IsRisingGroup c.loop-group.yielded c.loop-group.rising c.in-Some.group c.rising_group.result c.loop-group.invariant c.rising_group.ensures)
