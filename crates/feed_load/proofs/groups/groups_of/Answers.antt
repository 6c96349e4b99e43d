use Rattle.std.proofs.Common.{◌≡◌, map, ◌∙◌, ap, subst}
use Rattle.std.specs.List.{AllZip}
use Rattle.std.proofs.lemmas.Result.{IfOk-weaker}
use Rattle.flex_model.specs.SoundTimes.{AreIds}
use Rattle.flex_model.specs.declared.fault.InputFile.TheVariants.{Stops, LocationGroups, LocationGroupStops}
use Rattle.feed_meaning.specs.FeedLinks.{Tables}
use Rattle.feed_meaning.specs.FeedValue.{group_of}
use Rattle.feed_meaning.specs.Rules.{Values}
use Rattle.feed_rules.specs.Links.{records_in}
use Rattle.feed_load.specs.GroupMembers.{IsRisingGroup}
use Rattle.feed_load.specs.TableValues.{values_in}
use Rattle.feed_load.proofs.PresentTables.{records_are}
use Rattle.feed_load.proofs.RisingMembers.{groups_are}
use Rattle.feed_load.proofs.groups.groups_of.Goals as goal

pub groups_among-requires : goal.groups_among-requires
groups_among-requires c =
    subst (λ xs. AreIds (map (λ (r : Values). r "location_group_id") xs)) (ap records_in c.in-Some.is ∙ records_are c.in-Some.groups.now) c.requires.groups

pub returns-in_ok-groups_among-in-Some : goal.returns-in_ok-groups_among-in-Some
returns-in_ok-groups_among-in-Some c =
    let groups = c.in-Some.groups in
    let stops = c.args.stop_ids.now in
    let among = c.in_ok-groups_among-in-Some.field-0.items in
    let pairs = records_in c.args.group_stops in
    IfOk-weaker c.rising_groups.result (AllZip IsRisingGroup among)
    (λ found. (tables : Tables) → tables LocationGroups ≡ records_in c.args.groups → tables LocationGroupStops ≡ records_in c.args.group_stops → map (λ (r : Values). r "stop_id") (tables Stops) ≡ stops
    → found ≡ map (group_of tables) (tables LocationGroups))
    (λ found all tables groups_is pairs_is stops_are.
    groups_are tables stops c.requires.stops stops_are pairs (values_in groups.now) found (groups_is ∙ ap records_in c.in-Some.is ∙ records_are groups.now) pairs_is
    (subst (λ xs. AllZip IsRisingGroup xs found) c.in_ok-groups_among-in-Some.ensures all))
    c.rising_groups.ensures
