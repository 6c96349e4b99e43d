use Rattle.std.proofs.Common.{◌≡◌, map, sym, ◌∙◌, ap}
use Rattle.std.proofs.lemmas.Result.{IfOk-weaker}
use Rattle.feed_rules.specs.Links.{records_in}
use Rattle.feed_load.specs.GroupMembers.{unordered_group}
use Rattle.feed_load.specs.TableValues.{values_in}
use Rattle.feed_load.proofs.PresentTables.{records_are}
use Rattle.feed_load.proofs.groups.groups_among.Goals as goal

pub returns-in-Some : goal.returns-in-Some
returns-in-Some c =
    let pairs = c.in-Some.pairs in
    let groups = values_in c.args.groups.now in
    let stops = c.args.stop_ids.now in
    IfOk-weaker c.unordered_groups.result (λ found. found.items ≡ map (unordered_group stops (values_in pairs.now)) groups) (λ found. found.items ≡ map (unordered_group stops (records_in c.args.pairs)) groups)
    (λ found e. e ∙ ap (λ xs. map (unordered_group stops xs) groups) (sym (ap records_in c.in-Some.is ∙ records_are pairs.now))) c.unordered_groups.ensures
