use Rattle.std.proofs.Common.{◌≡◌, true, ◌∙◌, ap, map, sym, subst}
use Rattle.std.proofs.lemmas.List.{take_all}
use Rattle.std.specs.List.{flat_map}
use Rattle.feed_tables.specs.Refusals.{is_given}
use Rattle.flex_model.specs.declared.fault.InputFile.TheVariants.{Locations}
use Rattle.feed_meaning.specs.FeedLinks.{location_links}
use Rattle.feed_meaning.specs.Tables.{faults_at}
use Rattle.feed_rules.specs.Zones.{HaveZoneIds, zone_entry}
use Rattle.feed_rules.proofs.ZoneIds.{links_more}
use Rattle.feed_rules.proofs.zone_links.zone_link_faults.Goals as goal

pub loop-zone-preserved : goal.loop-zone-preserved
loop-zone-preserved c = λ tables stand given.
    let zones = c.as_slice-zone-items.result.now in
    let zone = c.zone-item.result in
    let low = c.loop-zone-test.true in
    let has_id = subst (λ z. is_given z.id ≡ true) (sym c.zone-item.is) (given c.loop-zone.zone-index zone low) in
    links_more zones c.loop-zone.zone-index zone low c.zone-item.is (λ e. faults_at Locations e.row (location_links tables e.values)) c.loop-zone.faults c.add_faults.new.faults _
    (c.loop-zone.invariant tables stand given)
    (ap (faults_at Locations zone.line) (c.zone_links-rules.ensures tables (zone_entry zone).values stand c.as_str.ensures.bytes has_id))
    c.in_ok-add_faults.ensures

pub returns : goal.returns
returns c = λ tables stand given.
    let whole = c.as_slice-zone-items.ensures in
    c.loop-zone.invariant tables stand (subst HaveZoneIds (sym whole) given)
    ∙ ap (λ zones. flat_map (λ e. faults_at Locations e.row (location_links tables e.values)) (map zone_entry zones)) (take_all c.loop-zone.zone-index c.as_slice-zone-items.result.now c.loop-zone-test.false ∙ whole)
