-- However a text is scanned, the walk gives what was found, and zones with ids.
use Rattle.std.proofs.Common.{◌≡◌, ◌≢◌, ℕ, ◌<◌, ◌≤◌, ◌^◌, Bool, true, false, ◌&&◌, List, [], ◌∷◌, All, drop, length, map, nat_eq, refl, sym, ◌∙◌, ap, subst, arith}
use Rattle.std.specs.Prelude.{if◌then◌else◌}
use Rattle.std.specs.List.{starts_with}
use Rattle.std.specs.Str.{bytes_eq, is_utf8}
use Rattle.std.specs.Str.Lossy.{utf8_valid_len}
use Rattle.std.proofs.lemmas.Bool.{and_parts}
use Rattle.std.proofs.lemmas.List.{get_or-map, length-drop, length-map}
use Rattle.std.proofs.lemmas.List.Elements.{All-nil}
use Rattle.std.proofs.lemmas.Slice.Eq.{bytes_eq-Decides}
use Rattle.flex_model.specs.SoundTimes.{AreIds}
use Rattle.flex_model.specs.declared.fault.FaultCode.TheVariants.{NotUtf8}
use Rattle.flex_model.specs.declared.fault.InputFile.TheVariants.{Locations}
use Rattle.flex_model.specs.declared.fault.RawFile.{RawFile}
use Rattle.flex_model.specs.declared.fault.RawFile.TheVariants.{Bytes}
use Rattle.feed_meaning.specs.FeedFaults.{Feature, Zones}
use Rattle.feed_meaning.specs.Folder.{Folder}
use Rattle.feed_meaning.specs.Locations.{Json, Scan, feature_nodes, one_fault, row_at, scanned, syntax_fault, walked, without_mark, zones_of, zones_of_scan}
use Rattle.feed_meaning.specs.Soundness.{GivesSoundFeatures}
use Rattle.feed_meaning.specs.Told.{IsWithin}
use Rattle.feed_meaning.proofs.SoundFeatures.{walked_features}
use Rattle.geo_json.specs.Scans.{IsScanOf}
use Rattle.geo_json.specs.Zones.{feature_in}
use Rattle.geo_json.specs.Laws.{FeaturesAreFew}
use Rattle.feed_rules.specs.Folders.{ReadsFolder, found_zones}
use Rattle.feed_rules.specs.Zones.{AreFoundZones, Scans, ScansFolder, TellsZones, held}
use Rattle.feed_rules.specs.declared.folder.RawFeed.{RawFeed}
use Rattle.feed_rules.specs.declared.zones.FoundZones.{FoundZones}
use Rattle.feed_rules.specs.declared.zones.FoundZones.TheVariants as FoundAs

unmarked_by : (bytes : List ℕ) (b : Bool) → length (if b then drop 3 bytes else bytes) ≤ length bytes
unmarked_by bytes true = (let size = length-drop 3 bytes in omega (arith, size))
unmarked_by bytes false = omega arith

pub unmarked_within : (bytes : List ℕ) → length (without_mark bytes) ≤ length bytes
unmarked_within bytes = unmarked_by bytes (starts_with nat_eq bytes (0xEF ∷ 0xBB ∷ 0xBF ∷ []))

-- scans one text, if it is UTF-8, and no other
pub cut : (List ℕ → Scan) → List ℕ → List ℕ → Scan
cut scan text t = if is_utf8 t && bytes_eq t text then scan t else syntax_fault 0

module _ (scan : List ℕ → Scan) (text : List ℕ) where
  cut_same : is_utf8 text ≡ true → cut scan text text ≡ scan text
  unfolding cut
  cut_same e =
      ap (λ b. if b && bytes_eq text text then scan text else syntax_fault 0) e
      ∙ ap (λ b. if b then scan text else syntax_fault 0) ((bytes_eq-Decides text text).1 refl)

  by_text : (b : Bool) → is_utf8 text ≡ b
      → (if b then zones_of_scan text (cut scan text text) else one_fault (row_at text (utf8_valid_len text)) NotUtf8)
      ≡ (if b then zones_of_scan text (scan text) else one_fault (row_at text (utf8_valid_len text)) NotUtf8)
  by_text true e = ap (zones_of_scan text) (cut_same e)
  by_text false e = refl

  -- that scan agrees with the grammar as well
  pub cut_scans : Scans scan text → Scans (cut scan text) text
  cut_scans scans = record { agrees = λ e. subst (IsScanOf text) (sym (cut_same e)) (scans.agrees e) }

  few_by : FeaturesAreFew → Scans scan text → length text < 2 ^ 32 → (t : List ℕ) (json : Json) (b : Bool) → (is_utf8 t && bytes_eq t text) ≡ b
      → (if b then scan t else syntax_fault 0) ≡ scanned json → length (feature_nodes json) < 2 ^ 32
  few_by law scans short t json true e is =
      let both = and_parts (is_utf8 t) (bytes_eq t text) e in
      let same : t ≡ text = (bytes_eq-Decides t text).0 both.1 in
      let here : scan text ≡ scanned json = ap scan (sym same) ∙ is in
      law text json (subst (IsScanOf text) here (scans.agrees (subst (λ x. is_utf8 x ≡ true) same both.0))) short
  few_by law scans short t json false e is = cc

  pub sound_cut : FeaturesAreFew → Scans scan text → length text < 2 ^ 32 → GivesSoundFeatures (zones_of (cut scan text))
  unfolding cut
  sound_cut law scans short = walked_features (cut scan text) (λ t json is. few_by law scans short t json (is_utf8 t && bytes_eq t text) refl is)

-- the bytes of a file hold the same, if only their text is scanned
pub same_cut : (scan : List ℕ → Scan) (bytes : List ℕ) → zones_of (cut scan (without_mark bytes)) bytes ≡ zones_of scan bytes
same_cut scan bytes = by_text scan (without_mark bytes) (is_utf8 (without_mark bytes)) refl

-- what a reader of one text gives, where that text agrees with the grammar and isn't long
pub sound_at : FeaturesAreFew → (scan : List ℕ → Scan) (bytes : List ℕ) → Scans scan (without_mark bytes) → IsWithin 4294967295 (Bytes bytes) → GivesSoundFeatures (zones_of (cut scan (without_mark bytes)))
sound_at law scan bytes scans within =
    sound_cut scan (without_mark bytes) law scans (let le = unmarked_within bytes in omega (arith, le, within))

same_bytes : (a b : List ℕ) → Bytes a ≡ Bytes b → a ≡ b
same_bytes a b e = cc

module _ (law : FeaturesAreFew) (scan : List ℕ → Scan) (raw : RawFile) (scans : (bytes : List ℕ) → raw ≡ Bytes bytes → Scans scan (without_mark bytes)) (within : IsWithin 4294967295 raw) where
  told : (found : FoundZones) → AreFoundZones raw found → (bytes : List ℕ) → raw ≡ Bytes bytes → zones_of scan bytes ≡ held found
  told FoundAs.Absent e bytes is = absurd (let h = sym e ∙ is in cc)
  told FoundAs.TooLarge e bytes is = absurd (let h = sym e ∙ is in cc)
  told (FoundAs.Refused code row) (known, e, refused) bytes is =
      ap (zones_of scan) (same_bytes bytes known (sym is ∙ e)) ∙ refused.by_each_scan scan (scans known e)
  told (FoundAs.Read read) (known, e, hold) bytes is =
      ap (zones_of scan) (same_bytes bytes known (sym is ∙ e)) ∙ hold.by_each_scan scan (scans known e)

  ids_of : (z : Zones) → AreIds (map (λ f. f.id) z.features) → All (λ (f : Feature). f.id ≢ []) z.features
  ids_of z ids k d lt =
      subst (λ id. id ≢ []) (get_or-map (λ (f : Feature). f.id) z.features k d d.id lt) (ids.given k d.id (subst (λ n. k < n) (sym (length-map z.features (λ (f : Feature). f.id))) lt))

  given : (found : FoundZones) → AreFoundZones raw found → (held found).faults ≡ [] → All (λ f. f.id ≢ []) (held found).features
  given FoundAs.Absent e none = All-nil (λ (f : Feature). f.id ≢ [])
  given FoundAs.TooLarge e none = All-nil (λ (f : Feature). f.id ≢ [])
  given (FoundAs.Refused code row) is none = cc
  given (FoundAs.Read read) (bytes, e, hold) none =
      let same : zones_of (cut scan (without_mark bytes)) bytes ≡ walked (map feature_in read) [] = same_cut scan bytes ∙ hold.by_each_scan scan (scans bytes e) in
      let sound = sound_at law scan bytes (scans bytes e) (subst (IsWithin 4294967295) e within) in
      let ids = sound.ids bytes (ap (λ z. z.faults) same ∙ none) in
      ids_of (walked (map feature_in read) []) (subst (λ z. AreIds (map (λ f. f.id) z.features)) same ids)

-- what was found is what the file holds, by each way to scan it that agrees with the grammar of JSON
pub tells_zones : FeaturesAreFew → (scan : List ℕ → Scan) (raw : RawFeed) (folder : Folder) → ReadsFolder raw folder → ScansFolder scan folder → TellsZones (zones_of scan) (folder Locations) (found_zones raw)
tells_zones law scan raw folder reads scans = record {
  told = told law scan (folder Locations) scans.scans reads.counted raw.zones reads.zones;
  given = given law scan (folder Locations) scans.scans reads.counted raw.zones reads.zones;
}
