-- The ids of a column of a table that may be missing.
use Rattle.std.proofs.Common.{◌≡◌, ℕ, fold, List, [], Option, Some, map, sym, ◌∙◌, ap, subst}
use Rattle.std.specs.Borrow.{Bor}
use Rattle.std.proofs.lemmas.Simd.{map-map}
use Rattle.flex_model.specs.SoundTimes.{AreIds}
use Rattle.feed_tables.specs.Records.{header_of, rows_of}
use Rattle.feed_meaning.specs.Noted.{noted}
use Rattle.feed_meaning.specs.Rules.{Values}
use Rattle.feed_meaning.specs.Tables.{Entry, value_named}
use Rattle.feed_meaning.proofs.NamedLists.{noted_of_ids}
use Rattle.feed_rules.specs.Links.{records_in}
use Rattle.feed_rules.specs.Zones.{zone_entry, zone_values}
use Rattle.geo_json.specs.declared.record.ZoneRecord.{ZoneRecord}
use Rattle.feed_load.specs.NamedIds.{AreColumnIds, AreZoneIds}
use Rattle.feed_load.specs.TableValues.{values_in}
use Rattle.feed_load.proofs.PresentTables.{records_are}
use Rattle.feed_load.proofs.Texts.{ids_are}

pub column_ids : (found : Option (Bor (List (List (List ℕ))))) (table : Bor (List (List (List ℕ)))) (column : List ℕ) (ids : List (List ℕ)) → found ≡ Some table
    → ids ≡ fold noted [] (map (λ row. value_named (header_of table.now) row.fields column) (rows_of table.now)) → AreColumnIds found column ids
column_ids found table column ids is noted_are name same distinct =
    let t = table.now in
    let there : records_in found ≡ values_in t = ap records_in is ∙ records_are t in
    ids_are t name ids (noted_are ∙ ap (λ n. fold noted [] (map (λ row. value_named (header_of t) row.fields n) (rows_of t))) same)
    (subst (λ rs. AreIds (map (λ (r : Values). r name) rs)) there distinct)
    ∙ ap (map (λ (r : Values). r name)) (sym there)

pub zone_ids_are : (found : Option (Bor (List ZoneRecord))) (zones : Bor (List ZoneRecord)) (ids : List (List ℕ)) → found ≡ Some zones
    → ids ≡ fold noted [] (map (λ z. z.id) zones.now) → AreZoneIds found ids
zone_ids_are found zones ids is noted_are distinct =
    let same : map (λ r. r "id") (zone_values found) ≡ map (λ z. z.id) zones.now =
    ap (λ o. map (λ (r : Values). r "id") (zone_values o)) is
    ∙ map-map (λ (r : Values). r "id") (λ (e : Entry). e.values) (map zone_entry zones.now) ∙ map-map (λ (e : Entry). e.values "id") zone_entry zones.now in
    noted_are ∙ noted_of_ids (map (λ z. z.id) zones.now) (subst AreIds same distinct) ∙ sym same
