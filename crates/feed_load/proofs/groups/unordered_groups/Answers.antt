use Rattle.std.proofs.Common.{length, sym, ◌∙◌, ap, subst, arith}
use Rattle.std.proofs.lemmas.List.{length-map}
use Rattle.flex_model.specs.SoundTimes.{AreIds}
use Rattle.feed_tables.specs.Records.{header_of}
use Rattle.feed_load.specs.GroupMembers.{unordered_group}
use Rattle.feed_load.specs.TableValues.{values_in, values_under}
use Rattle.feed_load.proofs.Grouping.{found_low}
use Rattle.feed_load.proofs.GroupRecords.{group_count, group_passed, member_added, stop_passed}
use Rattle.feed_load.proofs.Texts.{ids_are, text_is}
use Rattle.feed_load.proofs.groups.unordered_groups.Goals as goal

pub index_mut-requires : goal.index_mut-requires
index_mut-requires c =
    let groups = values_in c.args.groups.now in
    let stops = c.args.stop_ids.now in
    let ids = c.in_ok-group_ids.group_ids in
    let among = found_low ids c.value.result.now c.in-Some-index_of.group (sym c.index_of.ensures ∙ c.in-Some-index_of.is) in
    let many = group_count stops groups ids (ids_are c.args.groups.now "location_group_id" ids c.in_ok-group_ids.ensures c.requires) in
    let kept = ap length c.loop-row.invariant ∙ length-map groups (unordered_group stops (values_under (header_of c.args.pairs.now) c.loop-row.yielded)) in
    omega (arith, among, many, kept, c.loop-row.found.ok.0)

pub loop-row-preserved : goal.loop-row-preserved
loop-row-preserved c =
    let groups = values_in c.args.groups.now in
    let header = header_of c.args.pairs.now in
    let fields = c.in-Some.row.fields in
    let ids = c.in_ok-group_ids.group_ids in
    let are_of = ids_are c.args.groups.now "location_group_id" ids c.in_ok-group_ids.ensures c.requires in
    let id = text_is header fields "location_group_id" _ c.value.result.now c.value.ensures c.column-group_id.ensures in
    let stop = text_is header fields "stop_id" _ c.value-stop.result.now c.value-stop.ensures c.column-stop_id.ensures in
    member_added c.args.stop_ids.now groups ids are_of header c.loop-row.yielded c.in-Some.row c.loop-row.found.items c.loop-row.invariant
    (subst AreIds (sym are_of) c.requires) c.value.result.now c.value-stop.result.now c.in-Some-index_of.group c.in-Some-index_of-2.index c.index_mut.result.now c.add_member.new.group id stop
    (sym c.index_of.ensures ∙ c.in-Some-index_of.is) (sym c.index_of-in-loop-row.ensures ∙ c.in-Some-index_of-2.is) c.index_mut.ensures.value c.in_ok-add_member.ensures

pub loop-row-preserved-in_default : goal.loop-row-preserved-in_default
loop-row-preserved-in_default c =
    let groups = values_in c.args.groups.now in
    let header = header_of c.args.pairs.now in
    let fields = c.in-Some.row.fields in
    let ids = c.in_ok-group_ids.group_ids in
    let are_of = ids_are c.args.groups.now "location_group_id" ids c.in_ok-group_ids.ensures c.requires in
    let id = text_is header fields "location_group_id" _ c.value.result.now c.value.ensures c.column-group_id.ensures in
    group_passed c.args.stop_ids.now groups ids are_of header c.loop-row.yielded c.in-Some.row c.loop-row.found.items c.loop-row.invariant c.value.result.now id
    (sym c.index_of.ensures ∙ c.in_default.is)

pub loop-row-preserved-in_default-index_of : goal.loop-row-preserved-in_default-index_of
loop-row-preserved-in_default-index_of c =
    let groups = values_in c.args.groups.now in
    let header = header_of c.args.pairs.now in
    let fields = c.in-Some.row.fields in
    let ids = c.in_ok-group_ids.group_ids in
    let are_of = ids_are c.args.groups.now "location_group_id" ids c.in_ok-group_ids.ensures c.requires in
    let stop = text_is header fields "stop_id" _ c.value-stop.result.now c.value-stop.ensures c.column-stop_id.ensures in
    stop_passed c.args.stop_ids.now groups ids are_of header c.loop-row.yielded c.in-Some.row c.loop-row.found.items c.loop-row.invariant c.value-stop.result.now stop
    (sym c.index_of-in-loop-row.ensures ∙ c.in_default-index_of.is)
