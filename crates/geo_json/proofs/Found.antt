-- What the features and the faults of a walk are, by its first fault.
use Rattle.std.proofs.Common.{◌≡◌, ◌∙◌, ℕ, List, [], ◌∷◌, None, Some, Result, Ok, Err, IfOk, ◌⊎◌, inl, inr, ap, map, refl, subst, sym}
use Rattle.std.specs.List.{filter_map}
use Rattle.feed_meaning.specs.FeedFaults.{Zones}
use Rattle.feed_meaning.specs.Locations.{Check, Json, Scan, checks, depth_fault, feature_nodes, feature_of, one_fault, repeated, row_at, scanned, syntax_fault, walked, zones_of_scan}
use Rattle.flex_model.specs.declared.fault.FaultCode.{FaultCode}
use Rattle.json_text.specs.Grammar.{IsJsonWithin}
use Rattle.json_text.specs.Refusal.{IsSyntaxFault, IsTooDeep, greatest_depth}
use Rattle.json_text.specs.declared.refusal.ScanRefusal.{ScanRefusal}
use Rattle.json_text.specs.declared.refusal.ScanRefusal.TheVariants as Scanning
use Rattle.geo_json.specs.Features.{scan_checks, scan_features}
use Rattle.geo_json.specs.Refusals.{located, of_scan}
use Rattle.geo_json.specs.Scans.{IsJsonOf, IsScanOf}
use Rattle.geo_json.specs.Walks.{Refuses, TellsFirst, first_fault}
use Rattle.geo_json.specs.Zones.{AreZones, feature_in}
use Rattle.geo_json.specs.declared.record.ZoneRecord.{ZoneRecord}
use Rattle.geo_json.specs.declared.refusal.WalkRefusal.{WalkRefusal}
use Rattle.geo_json.specs.declared.refusal.WalkRefusal.TheVariants.{Fault, NoMemory}

none_found : (found : List Check) → first_fault found ≡ None → filter_map (λ c. c) found ≡ []
none_found [] e = refl
none_found (None ∷ more) e = none_found more e
none_found (Some fault ∷ more) e = absurd (cc)

some_found : (found : List Check) (fault : ℕ × FaultCode) → first_fault found ≡ Some fault → (others : List (ℕ × FaultCode)) × (filter_map (λ c. c) found ≡ fault ∷ others)
some_found [] fault e = absurd (cc)
some_found (None ∷ more) fault e = some_found more fault e
some_found (Some other ∷ more) fault e = (filter_map (λ c. c) more, ap (λ f. f ∷ filter_map (λ c. c) more) (same other fault e))
  where
    same : (x y : ℕ × FaultCode) → Some x ≡ Some y → x ≡ y
    same x y s = cc

pub zones_found : (text : List ℕ) (scan : Scan) (zones : List ZoneRecord) → first_fault (scan_checks scan) ≡ None → map feature_in zones ≡ scan_features text scan → AreZones (zones_of_scan text scan) (Ok zones)
zones_found text (syntax_fault at) zones none are = absurd (cc)
zones_found text (depth_fault at) zones none are = absurd (cc)
zones_found text (scanned json) zones none are =
    ap (walked (map (feature_of text json) (feature_nodes json))) (ap (map (λ f. (row_at text f.0, f.1))) (none_found (checks json) none))
    ∙ ap (λ features. let told : Zones = record { faults = repeated features; features = features } in told) (sym are)

fault_found : (text : List ℕ) (scan : Scan) (place : ℕ) (code : FaultCode) → first_fault (scan_checks scan) ≡ Some (place, code) → zones_of_scan text scan ≡ one_fault (row_at text place) code
fault_found text (syntax_fault at) place code first = ap (λ f. one_fault (row_at text f.0) f.1) (one _ _ first)
  where
    one : (x y : ℕ × FaultCode) → Some x ≡ Some y → x ≡ y
    one x y s = cc
fault_found text (depth_fault at) place code first = ap (λ f. one_fault (row_at text f.0) f.1) (one _ _ first)
  where
    one : (x y : ℕ × FaultCode) → Some x ≡ Some y → x ≡ y
    one x y s = cc
fault_found text (scanned json) place code first =
    let found = some_found (checks json) (place, code) first in
    ap (λ f. walked (map (feature_of text json) (feature_nodes json)) (map (λ g. (row_at text g.0, g.1)) f)) found.1

pub refusal_found : (text : List ℕ) (scan : Scan) (refusal : WalkRefusal) → Refuses (scan_checks scan) refusal → AreZones (zones_of_scan text scan) (Err (located text refusal))
refusal_found text scan (Fault code place) refuses = fault_found text scan place code refuses
refusal_found text scan NoMemory refuses = tt

by_either : (found : List Check) (refusal expected : ScanRefusal) → Refuses found (of_scan expected) → (refusal ≡ Scanning.NoMemory) ⊎ (refusal ≡ expected) → Refuses found (of_scan refusal)
by_either found refusal expected refuses (inl e) = subst (λ r. Refuses found (of_scan r)) (sym e) tt
by_either found refusal expected refuses (inr e) = subst (λ r. Refuses found (of_scan r)) (sym e) refuses

-- A text that was scanned has values, and what is told of them is told of the scan.
pub ok_told : {T : Type 0} (text : List ℕ) (scan : Scan) (result : Result T WalkRefusal) → ((at : ℕ) → IsSyntaxFault text at → ⊥) → ((at : ℕ) → IsTooDeep text at → ⊥)
    → ((json : Json) → IsJsonOf text json → TellsFirst (checks json) result) → IsScanOf text scan → TellsFirst (scan_checks scan) result
ok_told text (syntax_fault at) result syntax deep told is = absurd (syntax at is)
ok_told text (depth_fault at) result syntax deep told is = absurd (deep at is)
ok_told text (scanned json) result syntax deep told is = told json is

pub ok_value : (text : List ℕ) (scan : Scan) (result : Result (List ZoneRecord) WalkRefusal) → ((at : ℕ) → IsSyntaxFault text at → ⊥) → ((at : ℕ) → IsTooDeep text at → ⊥)
    → ((json : Json) → IsJsonOf text json → IfOk result (λ zones. map feature_in zones ≡ map (feature_of text json) (feature_nodes json)))
    → IsScanOf text scan → IfOk result (λ zones. map feature_in zones ≡ scan_features text scan)
ok_value text (syntax_fault at) result syntax deep told is = absurd (syntax at is)
ok_value text (depth_fault at) result syntax deep told is = absurd (deep at is)
ok_value text (scanned json) result syntax deep told is = told json is

-- One that wasn't has the fault for which it was refused.
pub err_told : (text : List ℕ) (scan : Scan) (refusal : ScanRefusal) → (IsJsonWithin greatest_depth text → refusal ≡ Scanning.NoMemory)
    → ((at : ℕ) → IsSyntaxFault text at → (refusal ≡ Scanning.NoMemory) ⊎ (refusal ≡ Scanning.Syntax at))
    → ((at : ℕ) → IsTooDeep text at → (refusal ≡ Scanning.NoMemory) ⊎ (refusal ≡ Scanning.Depth at))
    → IsScanOf text scan → Refuses (scan_checks scan) (of_scan refusal)
err_told text (syntax_fault at) refusal accepts syntax deep is =
    by_either (scan_checks (syntax_fault at)) refusal (Scanning.Syntax at) refl (syntax at is)
err_told text (depth_fault at) refusal accepts syntax deep is =
    by_either (scan_checks (depth_fault at)) refusal (Scanning.Depth at) refl (deep at is)
err_told text (scanned json) refusal accepts syntax deep is =
    subst (λ r. Refuses (checks json) (of_scan r)) (sym (accepts (is.tree, is.spelled, is.flat))) tt
