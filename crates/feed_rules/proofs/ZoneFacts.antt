-- What the bytes of locations.geojson hold, from what was read of their text.
use Rattle.std.proofs.Common.{◌≡◌, ℕ, Bool, true, false, List, refl, sym, ◌∙◌, ap, subst}
use Rattle.std.specs.Prelude.{if◌then◌else◌}
use Rattle.std.specs.Str.{IsUtf8, is_utf8}
use Rattle.std.specs.Str.Lossy.{utf8_valid_len}
use Rattle.std.proofs.lemmas.Str.{IsUtf8-from_is_utf8, is_utf8-from_IsUtf8}
use Rattle.flex_model.specs.declared.fault.FaultCode.TheVariants.{NotUtf8}
use Rattle.feed_meaning.specs.FeedFaults.{Zones}
use Rattle.feed_meaning.specs.Locations.{Scan, one_fault, row_at, without_mark, zones_of, zones_of_scan}
use Rattle.geo_json.specs.Scans.{IsScanOf}
use Rattle.feed_rules.specs.Zones.{AreRefused, Hold}

not_true : (b : Bool) → (b ≡ true → ⊥) → b ≡ false
not_true true never = absurd (never refl)
not_true false never = refl

module _ (bytes text : List ℕ) (unmarked : text ≡ without_mark bytes) where
  -- bytes that aren't UTF-8 without their mark
  pub hold_no_text : (row : ℕ) → (IsUtf8 text → ⊥) → row ≡ row_at text (utf8_valid_len text) → AreRefused bytes row NotUtf8
  hold_no_text row never is = record {
    by_each_scan = λ scan scans.
        let one = not_true (is_utf8 text) (λ e. never (IsUtf8-from_is_utf8 text e)) in
        let other : zones_of scan bytes ≡ one_fault (row_at text (utf8_valid_len text)) NotUtf8 =
        subst (λ t. is_utf8 t ≡ false → (if is_utf8 t then zones_of_scan t (scan t) else one_fault (row_at t (utf8_valid_len t)) NotUtf8) ≡ one_fault (row_at text (utf8_valid_len text)) NotUtf8)
        unmarked
        (λ off. ap (λ b. if b then zones_of_scan text (scan text) else one_fault (row_at text (utf8_valid_len text)) NotUtf8) off)
        (subst (λ t. is_utf8 t ≡ false) unmarked one) in
        other ∙ ap (λ r. one_fault r NotUtf8) (sym is);
  }

  -- a text whose zones were told by each scan of it
  pub hold_told : (zones : Zones) → IsUtf8 text → ((scan : Scan) → IsScanOf text scan → zones_of_scan text scan ≡ zones) → Hold bytes zones
  hold_told zones valid told = record {
    by_each_scan = λ scan scans.
        let on : is_utf8 (without_mark bytes) ≡ true = subst (λ t. is_utf8 t ≡ true) unmarked (is_utf8-from_IsUtf8 text valid) in
        let here = subst (λ t. (s : Scan) → IsScanOf t s → zones_of_scan t s ≡ zones) unmarked told in
        ap (λ b. if b then zones_of_scan (without_mark bytes) (scan (without_mark bytes)) else one_fault (row_at (without_mark bytes) (utf8_valid_len (without_mark bytes))) NotUtf8) on
        ∙ here (scan (without_mark bytes)) (scans.agrees on);
  }
