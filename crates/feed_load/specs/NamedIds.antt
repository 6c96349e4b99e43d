-- The ids of a feed that its records name.
use Rattle.std.specs.Prelude.{◌≡◌, ℕ, List, Option, codes, map}
use Rattle.std.specs.Borrow.{Bor}
use Rattle.flex_model.specs.declared.fault.InputFile.TheVariants.{Stops, Locations, LocationGroups, BookingRules}
use Rattle.flex_model.specs.SoundTimes.{AreIds}
use Rattle.feed_meaning.specs.FeedLinks.{Tables}
use Rattle.feed_meaning.specs.FeedValue.{service_ids}
use Rattle.feed_rules.specs.Links.{records_in}
use Rattle.feed_rules.specs.Zones.{zone_values}
use Rattle.geo_json.specs.declared.record.ZoneRecord.{ZoneRecord}
use Rattle.feed_load.specs.declared.named_ids.FeedIds.{FeedIds}
use Prim.Native.String.{String}

-- the texts of a column of distinct ids, none where there is no such table
abbrev pub AreColumnIds : Option (Bor (List (List (List ℕ)))) → List ℕ → List (List ℕ) → Type 0
AreColumnIds table column ids =
    (name : String) → column ≡ codes name → AreIds (map (λ r. r name) (records_in table))
    → ids ≡ map (λ r. r name) (records_in table)

-- the ids of distinct zones, none where there is no such file
abbrev pub AreZoneIds : Option (Bor (List ZoneRecord)) → List (List ℕ) → Type 0
AreZoneIds zones ids = AreIds (map (λ r. r "id") (zone_values zones))
    → ids ≡ map (λ r. r "id") (zone_values zones)

-- the ids are those of the tables
pub record AreIdsOf (ids : FeedIds) (tables : Tables) : Type 0 where
  pub stops : ids.stops ≡ map (λ r. r "stop_id") (tables Stops)
  pub groups : ids.groups ≡ map (λ r. r "location_group_id") (tables LocationGroups)
  pub zones : ids.zones ≡ map (λ r. r "id") (tables Locations)
  pub booking_rules : ids.booking_rules ≡ map (λ r. r "booking_rule_id") (tables BookingRules)
  pub services : ids.services ≡ service_ids tables
  pub distinct : AreIds ids.services
