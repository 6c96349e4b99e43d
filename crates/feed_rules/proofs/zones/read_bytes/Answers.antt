use Rattle.std.proofs.Common.{[], Err, map, refl, sym, ◌∙◌, ap, subst}
use Rattle.std.specs.Str.{IsUtf8}
use Rattle.feed_meaning.specs.Locations.{Scan, one_fault, row_at, walked, zones_of_scan}
use Rattle.geo_json.specs.Scans.{IsScanOf}
use Rattle.geo_json.specs.Zones.{AreZones, feature_in}
use Rattle.feed_rules.proofs.ZoneFacts.{hold_no_text, hold_told}
use Rattle.feed_rules.proofs.zones.read_bytes.Goals as goal

pub returns-in-Err : goal.returns-in-Err
returns-in-Err c =
    let text = c.without_mark-unmarked.result.now in
    let row = c.row_at.ensures ∙ ap (row_at text) (c.valid_up_to.ensures ∙ c.in-Err.ensures.valid_len) in
    (c.args.bytes.now, refl, hold_no_text c.args.bytes.now text c.without_mark-unmarked.ensures c.row_at.result c.in-Err.ensures.cases.0 row)

pub returns-in-Ok-read_zones : goal.returns-in-Ok-read_zones
returns-in-Ok-read_zones c =
    let text = c.in-Ok.text.now in
    let unmarked = c.in-Ok.ensures.cases.0 ∙ c.without_mark-unmarked.ensures in
    let valid = subst IsUtf8 (sym c.in-Ok.ensures.cases.0) c.in-Ok.ensures.cases.1 in
    (c.args.bytes.now, refl, hold_told c.args.bytes.now text unmarked (walked (map feature_in c.in-Ok-read_zones.zones) []) valid c.in-Ok-read_zones.ensures.zones)

pub returns-in-Err-Fault : goal.returns-in-Err-Fault
returns-in-Err-Fault c =
    let text = c.in-Ok.text.now in
    let unmarked = c.in-Ok.ensures.cases.0 ∙ c.without_mark-unmarked.ensures in
    let valid = subst IsUtf8 (sym c.in-Ok.ensures.cases.0) c.in-Ok.ensures.cases.1 in
    let told = subst (λ e. (scan : Scan) → IsScanOf text scan → AreZones (zones_of_scan text scan) (Err e)) c.in-Err-Fault.field-0-is c.in-Err-Fault.ensures.zones in
    (c.args.bytes.now, refl, hold_told c.args.bytes.now text unmarked (one_fault c.in-Err-Fault.line c.in-Err-Fault.code) valid told)
