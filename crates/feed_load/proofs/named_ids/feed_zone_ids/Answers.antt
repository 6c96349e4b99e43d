use Rattle.std.proofs.Common.{◌≡◌, fold, [], map}
use Rattle.std.proofs.lemmas.Result.{IfOk-weaker}
use Rattle.feed_meaning.specs.Noted.{noted}
use Rattle.feed_load.specs.NamedIds.{AreZoneIds}
use Rattle.feed_load.proofs.NamedIds.{zone_ids_are}
use Rattle.feed_load.proofs.named_ids.feed_zone_ids.Goals as goal

pub returns-in-Some : goal.returns-in-Some
returns-in-Some c =
    let zones = c.in-Some.zones in
    IfOk-weaker c.zone_ids.result (λ ids. ids ≡ fold noted [] (map (λ zone. zone.id) zones.now)) (AreZoneIds c.args.zones) (λ ids e. zone_ids_are c.args.zones zones ids c.in-Some.is e) c.zone_ids.ensures
