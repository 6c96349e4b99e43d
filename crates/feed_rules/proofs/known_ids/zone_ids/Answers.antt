use Rattle.std.proofs.Common.{[], ◌∙◌, ap, fold, map}
use Rattle.std.proofs.lemmas.List.{take_all}
use Rattle.feed_meaning.specs.Noted.{noted}
use Rattle.feed_rules.proofs.ZoneIds.{ids_more}
use Rattle.feed_rules.proofs.known_ids.zone_ids.Goals as goal

pub loop-zone-preserved : goal.loop-zone-preserved
loop-zone-preserved c =
    ids_more c.as_slice-zone-items.result.now c.loop-zone.zone-index c.zone-item.result c.loop-zone-test.true c.zone-item.is c.loop-zone.ids c.note.new.self c.as_str.result.now
    c.loop-zone.invariant c.as_str.ensures.bytes c.in_ok-note.ensures.noted

pub returns : goal.returns
returns c =
    c.loop-zone.invariant ∙ ap (λ zones. fold noted [] (map (λ zone. zone.id) zones)) (take_all c.loop-zone.zone-index c.as_slice-zone-items.result.now c.loop-zone-test.false ∙ c.as_slice-zone-items.ensures)
