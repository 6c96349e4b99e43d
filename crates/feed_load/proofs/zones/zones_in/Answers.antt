use Rattle.std.proofs.Common.{◌≡◌, ◌<◌, get_or, length, subst}
use Rattle.feed_load.proofs.ZoneLists.{zone_more}
use Rattle.feed_load.proofs.zones.zones_in.Goals as goal

pub loop-zone-preserved : goal.loop-zone-preserved
loop-zone-preserved c =
    let at = c.loop-zone.zone-index in
    let zone = c.zone-item.result in
    let same = c.as_slice-zone-items.ensures in
    zone_more c.args.stops.now c.args.zones.now at zone c.loop-zone.own c.push.new.self c.in_ok-zone_of.field-0 (subst (λ l. at < length l) same c.loop-zone-test.true)
    (subst (λ l. zone ≡ get_or l at zone) same c.zone-item.is) c.loop-zone.invariant c.in_ok-zone_of.ensures c.in_ok-push.ensures.ok
