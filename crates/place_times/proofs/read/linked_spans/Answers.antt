use Rattle.std.proofs.Common.{◌≡◌, ◌++◌, length, sym, ◌∙◌, ap, subst}
use Rattle.std.specs.Prelude.{◌==◌}
use Rattle.flex_model.specs.declared.fault.InputFile.TheVariants.{Direct, Walks}
use Rattle.feed_meaning.proofs.Kept.{nil_parts}
use Rattle.place_times.specs.Found.{values_of_found}
use Rattle.place_times.specs.Levels.{link_list, point_link_list, span_link_list}
use Rattle.place_times.specs.Places.{ArePlaceIds}
use Rattle.place_times.proofs.LevelFacts.{accepted_ids, alone_of, is_nil, not_empty}
use Rattle.place_times.proofs.read.linked_spans.Goals as goal

pub returns-then-not-is_empty : goal.returns-then-not-is_empty
returns-then-not-is_empty c =
    let feed = c.args.feed.now in
    let tables = c.args.tables.now in
    let ps = values_of_found tables.points in
    let are = subst (λ points. ArePlaceIds feed points c.in_ok-ids.ids) c.requires.points c.in_ok-ids.ensures in
    let same : c.in_ok-faults.faults ≡ link_list feed ps tables = c.in_ok-faults.ensures feed ps are in
    let full = not_empty c.in_ok-faults.faults (sym c.is_empty.ensures ∙ c.if-not-is_empty.true) in
    (λ none. full (same ∙ none), same)

pub returns : goal.returns
returns c =
    let feed = c.args.feed.now in
    let tables = c.args.tables.now in
    let ps = values_of_found tables.points in
    let are = subst (λ points. ArePlaceIds feed points c.in_ok-ids.ids) c.requires.points c.in_ok-ids.ensures in
    let same : c.in_ok-faults.faults ≡ link_list feed ps tables = c.in_ok-faults.ensures feed ps are in
    let none = sym same ∙ is_nil c.in_ok-faults.faults (sym c.is_empty.ensures ∙ c.if-not-is_empty.false) in
    let last = nil_parts (point_link_list feed tables.points ++ span_link_list feed ps Direct tables.direct) (span_link_list feed ps Walks tables.walks) none in
    let middle = nil_parts (point_link_list feed tables.points) (span_link_list feed ps Direct tables.direct) last.0 in (
      none,
      c.in_ok-direct.ensures feed ps Direct are (record { alone = alone_of Direct tables.direct c.requires.accepted.direct; linked = middle.1 }),
      c.in_ok-walks.ensures feed ps Walks are (record { alone = alone_of Walks tables.walks c.requires.accepted.walks; linked = last.1 }),
    )

pub place_ids-requires-clause-points : goal.place_ids-requires-clause-points
place_ids-requires-clause-points c = accepted_ids c.args.tables.now.points c.args.points.now c.requires.accepted.points c.requires.points
