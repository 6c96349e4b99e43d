use Rattle.std.proofs.Common.{◌≡◌, take}
use Rattle.feed_rules.proofs.ZoneIds.{AreMet, repeats}
use Rattle.feed_rules.proofs.zones.repeated_ids.Given as goal

-- the faults of the earlier zones, whose ids were met
abbrev pub invariant-loop-zone : goal.invariant-loop-zone
invariant-loop-zone l = record {
  faults : l.faults ≡ repeats (take l.zone-index l.zone-items);
  met : AreMet l.met.keys (take l.zone-index l.zone-items);
}
