-- Where the files have no faults by themselves, the tables and zones that were read have the records of the folder.
use Rattle.std.proofs.Common.{◌≡◌, ◌≢◌, ℕ, ◌+◌, ◌<◌, get_or, subst, Bool, true, false, ◌&&◌, List, [], ◌∷◌, Option, Some, None, length, map, refl, sym, ◌∙◌, ap, arith}
use Rattle.std.specs.Prelude.{◌==◌, if◌then◌else◌}
use Rattle.std.specs.Borrow.{Bor}
use Rattle.std.specs.List.{flat_map}
use Rattle.std.specs.Option.{option_map}
use Rattle.std.proofs.lemmas.Bool.{eqb-true}
use Rattle.feed_tables.specs.Records.{numbered_from, table_records}
use Rattle.feed_tables.specs.Refusals.{first_refusal, first_refusal_from, refusal_of}
use Rattle.feed_tables.specs.declared.refusal.TableRefusal.{TableRefusal}
use Rattle.feed_tables.specs.declared.refusal.TableRefusal.TheVariants as refusal
use Rattle.flex_model.specs.declared.fault.Fault.{Fault}
use Rattle.flex_model.specs.declared.fault.InputFile.{InputFile}
use Rattle.flex_model.specs.declared.fault.InputFile.TheVariants.{Locations}
use Rattle.flex_model.specs.declared.fault.RawFile.{RawFile}
use Rattle.flex_model.specs.declared.fault.RawFile.TheVariants as raw_file
use Rattle.feed_meaning.specs.FeedFaults.{Geo, feature_entry, feed_entries, features_in, first_list, link_faults, tables}
use Rattle.feed_meaning.specs.FeedLinks.{location_links}
use Rattle.feed_meaning.specs.Locations.{repeated}
use Rattle.feed_meaning.specs.Folder.{Folder, bytes_of, entries, has_no_record, may_be_blank}
use Rattle.feed_meaning.specs.Rules.{Values}
use Rattle.feed_meaning.specs.Tables.{entries_of, fault, faults_at, refusal_fault}
use Rattle.feed_meaning.proofs.Blanks.{no_header_is_blank}
use Rattle.feed_meaning.proofs.Kept.{nil_from_map, or-not, refusal-not}
use Rattle.feed_meaning.proofs.OnLiterals.{feed_on_literals}
use Rattle.feed_rules.specs.Folders.{ReadsFolder, accepted_records, found_of, found_zones, is_feed_table, raw_table, table_of}
use Rattle.feed_rules.specs.Found.{IsFound, found_faults, missing_fault}
use Rattle.feed_rules.specs.Levels.{level_one, needs}
use Rattle.feed_rules.specs.Zones.{AreFoundZones, HaveZoneIds, TellsZones, held, zone_entry, zone_faults, zone_values, zones_in}
use Rattle.geo_json.specs.Zones.{feature_in}
use Rattle.geo_json.specs.declared.record.ZoneRecord.{ZoneRecord}
use Rattle.feed_rules.specs.declared.zones.FoundZones.{FoundZones}
use Rattle.feed_rules.specs.declared.zones.FoundZones.TheVariants as FoundAs
use Rattle.feed_tables.specs.Refusals.{is_given}
use Rattle.std.proofs.lemmas.List.{get_or-map, length-map}
use Rattle.std.proofs.lemmas.Simd.{map-map}
use Rattle.feed_rules.specs.Links.{records_in}
use Rattle.feed_rules.specs.declared.folder.RawFeed.{RawFeed}
use Rattle.feed_rules.specs.declared.found.Found.{Found}
use Rattle.feed_rules.specs.declared.found.Found.TheVariants.{Absent, TooLarge, Refused, Read}
use Rattle.feed_rules.proofs.LevelFacts.{no_own, no_zone_faults}

-- no table is refused for want of memory
refusals-not_memory : (columns place : ℕ) (records : List (List (List ℕ))) → first_refusal_from columns place records ≡ Some refusal.NoMemory → ⊥
unfolding first_refusal_from
refusals-not_memory columns place [] e = cc
refusals-not_memory columns place (fields ∷ rest) e =
    or-not (refusal_of columns place fields) (first_refusal_from columns (place + 1) rest) refusal.NoMemory
    (refusal-not columns place fields refusal.NoMemory (λ h. cc) (λ h. cc) (λ h. cc) (λ h. cc)) (refusals-not_memory columns (place + 1) rest) e

pub not_memory : (records : List (List (List ℕ))) → first_refusal records ≡ Some refusal.NoMemory → ⊥
not_memory [] e = cc
not_memory (header ∷ rows) e = refusals-not_memory (length header) 0 (header ∷ rows) e

-- no bytes, and no records, have no entries
no_bytes : entries_of (table_records []) ≡ []
unfolding feed_on_literals
no_bytes = refl

no_records : entries_of [] ≡ []
unfolding numbered_from
no_records = refl

blank : (records : List (List (List ℕ))) → has_no_record records ≡ true → entries_of records ≡ []
blank [] e = no_records
blank (header ∷ rows) e = cc

-- the records of an absent file
absent_entries : (raw : RawFile) → raw ≡ raw_file.Absent → entries_of (table_records (bytes_of raw)) ≡ []
absent_entries raw e = ap (λ r. entries_of (table_records (bytes_of r))) e ∙ no_bytes

unblank : (may : Bool) (here missing : List Fault) → (if may && false then missing else here) ≡ here
unblank true here missing = refl
unblank false here missing = refl

-- a table that is refused without a fault lacks its header
refused-none : (file : InputFile) (needed : Bool) (r : TableRefusal) (records : List (List (List ℕ))) → first_refusal records ≡ Some r
    → found_faults file needed (Refused r) ≡ [] → entries_of records ≡ []
refused-none file needed (refusal.NotUtf8 row) records e none = let h = sym (unblank (may_be_blank file) (refusal_fault file (refusal.NotUtf8 row)) (missing_fault file needed)) ∙ none in cc
refused-none file needed refusal.NoHeader records e none = blank records (no_header_is_blank records e)
refused-none file needed refusal.DuplicateColumn records e none = let h = sym (unblank (may_be_blank file) (refusal_fault file refusal.DuplicateColumn) (missing_fault file needed)) ∙ none in cc
refused-none file needed (refusal.RowTooLong row) records e none = let h = sym (unblank (may_be_blank file) (refusal_fault file (refusal.RowTooLong row)) (missing_fault file needed)) ∙ none in cc
refused-none file needed refusal.TooManyRows records e none = let h = sym (unblank (may_be_blank file) (refusal_fault file refusal.TooManyRows) (missing_fault file needed)) ∙ none in cc
refused-none file needed refusal.NoMemory records e none = absurd (not_memory records e)

-- the records of a table, none where it wasn't read
abbrev pub values_in : Option (List (List (List ℕ))) → List Values
values_in None = []
values_in (Some t) = map (λ e. e.values) (entries_of t)

pub records-by : (o : Option (Bor (List (List (List ℕ))))) (p : Option (List (List (List ℕ)))) → option_map (λ t. t.now) o ≡ p → values_in p ≡ records_in o
records-by o p e = ap values_in (sym e) ∙ by o
  where
    by : (o : Option (Bor (List (List (List ℕ))))) → values_in (option_map (λ t. t.now) o) ≡ records_in o
    by None = refl
    by (Some t) = refl

-- a table without faults has the records of its file
pub kept_records : (file : InputFile) (needed : Bool) (raw : RawFile) (found : Found) → IsFound raw found → found_faults file needed found ≡ []
    → map (λ e. e.values) (entries_of (table_records (bytes_of raw))) ≡ values_in (table_of found)
kept_records file needed raw Absent e none = ap (map (λ e. e.values)) (absent_entries raw e)
kept_records file needed raw TooLarge e none = cc
kept_records file needed raw (Refused r) (bytes, e, refused) none =
    ap (λ x. map (λ e. e.values) (entries_of (table_records (bytes_of x)))) e ∙ ap (map (λ e. e.values)) (refused-none file needed r (table_records bytes) refused none)
kept_records file needed raw (Read t) (bytes, e, accepted, same) none =
    ap (λ x. map (λ e. e.values) (entries_of (table_records (bytes_of x)))) e ∙ ap (λ x. map (λ e. e.values) (entries_of x)) (sym same)

-- a needed table that is refused has a fault
needed-refused : (file : InputFile) (r : TableRefusal) (records : List (List (List ℕ))) → first_refusal records ≡ Some r → found_faults file true (Refused r) ≡ [] → ⊥
needed-refused file (refusal.NotUtf8 row) records e none = let h = sym (unblank (may_be_blank file) (refusal_fault file (refusal.NotUtf8 row)) (missing_fault file true)) ∙ none in cc
needed-refused file refusal.NoHeader records e none = by (may_be_blank file) none
  where
    by : (may : Bool) → (if may && true then missing_fault file true else refusal_fault file refusal.NoHeader) ≡ [] → ⊥
    by true h = cc
    by false h = cc
needed-refused file refusal.DuplicateColumn records e none = let h = sym (unblank (may_be_blank file) (refusal_fault file refusal.DuplicateColumn) (missing_fault file true)) ∙ none in cc
needed-refused file (refusal.RowTooLong row) records e none = let h = sym (unblank (may_be_blank file) (refusal_fault file (refusal.RowTooLong row)) (missing_fault file true)) ∙ none in cc
needed-refused file refusal.TooManyRows records e none = let h = sym (unblank (may_be_blank file) (refusal_fault file refusal.TooManyRows) (missing_fault file true)) ∙ none in cc
needed-refused file refusal.NoMemory records e none = not_memory records e

-- a needed table without faults was read
pub needed_is_read : (file : InputFile) (raw : RawFile) (found : Found) → IsFound raw found → found_faults file true found ≡ [] → table_of found ≡ None → ⊥
needed_is_read file raw Absent e none unread = cc
needed_is_read file raw TooLarge e none unread = cc
needed_is_read file raw (Refused r) (bytes, e, refused) none unread = needed-refused file r (table_records bytes) refused none
needed_is_read file raw (Read t) is none unread = cc

accepted : (o : Option TableRefusal) (t records : List (List (List ℕ))) → Some t ≡ accepted_records o records → t ≡ records
accepted None t records e = cc
accepted (Some r) t records e = cc

-- a table that was read has the records of its bytes
pub table_bytes : (raw : RawFile) (t : List (List (List ℕ))) → Some t ≡ raw_table raw → t ≡ table_records (bytes_of raw)
table_bytes raw_file.Absent t e = cc
table_bytes raw_file.TooLarge t e = cc
table_bytes (raw_file.Bytes bytes) t e = accepted (first_refusal (table_records bytes)) t (table_records bytes) e

-- the first list that isn't empty
pub first_given : (alone one two : List Fault) → alone ≡ one → (alone ≡ [] → ⊥) → alone ≡ first_list one two
first_given alone [] two e given = absurd (given e)
first_given alone (f ∷ one) two e given = e

pub first_empty : (one two : List Fault) → one ≡ [] → two ≡ first_list one two
first_empty [] two e = refl
first_empty (f ∷ one) two e = cc

pub nonempty : (xs alone : List Fault) (b : Bool) → b ≡ (length xs == 0) → xs ≡ alone → b ≡ false → alone ≡ [] → ⊥
nonempty xs alone b e same off h = let z : (length xs == 0) ≡ true = ap (λ ys. length ys == 0) (same ∙ h) in cc

pub empty : (xs alone : List Fault) (b : Bool) → b ≡ (length xs == 0) → xs ≡ alone → b ≡ true → alone ≡ []
empty [] alone b e same on = sym same
empty (x ∷ xs) alone b e same on = let h : length (x ∷ xs) ≡ 0 = eqb-true (length (x ∷ xs)) 0 (sym e ∙ on) in absurd (omega arith)

-- the records of a table, where there are no faults of the tables by themselves
pub linked : (raw : RawFeed) (folder : Folder) → ReadsFolder raw folder → level_one raw ≡ [] → (file : InputFile) → is_feed_table file ≡ true
    → (o : Option (Bor (List (List (List ℕ))))) → option_map (λ t. t.now) o ≡ table_of (found_of raw file) → map (λ e. e.values) (entries folder file) ≡ records_in o
linked raw folder reads none file e o is =
    kept_records file (needs raw file) (folder file) (found_of raw file) (reads.tables file e) (no_own raw none file e) ∙ records-by o (table_of (found_of raw file)) is

-- a table that is always needed was read then
pub needed : (raw : RawFeed) (folder : Folder) → ReadsFolder raw folder → level_one raw ≡ [] → (file : InputFile) → is_feed_table file ≡ true → needs raw file ≡ true
    → (o : Option (Bor (List (List (List ℕ))))) → option_map (λ t. t.now) o ≡ table_of (found_of raw file) → o ≡ None → ⊥
needed raw folder reads none file e is_needed o is unread =
    needed_is_read file (folder file) (found_of raw file) (reads.tables file e)
    (ap (λ b. found_faults file b (found_of raw file)) (sym is_needed) ∙ no_own raw none file e)
    (sym is ∙ ap (option_map (λ t. t.now)) unread)

pub some_zones : (a b : List ZoneRecord) → Some a ≡ Some b → a ≡ b
some_zones a b e = cc

filled_given : (text : List ℕ) → text ≢ [] → is_given text ≡ true
filled_given [] given = absurd (given refl)
filled_given (b ∷ text) given = refl

-- the features of the file are the zones that were read
pub features_are : (geo : Geo) (raw : RawFile) (found : FoundZones) → AreFoundZones raw found → TellsZones geo raw found → features_in geo raw ≡ (held found).features
features_are geo raw FoundAs.Absent e tells = ap (features_in geo) e
features_are geo raw FoundAs.TooLarge e tells = ap (features_in geo) e
features_are geo raw (FoundAs.Refused code row) (bytes, e, refused) tells = ap (features_in geo) e ∙ ap (λ z. z.features) (tells.told bytes e)
features_are geo raw (FoundAs.Read zones) (bytes, e, hold) tells = ap (features_in geo) e ∙ ap (λ z. z.features) (tells.told bytes e)

-- the zones that were read, where they were
zone_list : Option (List ZoneRecord) → List ZoneRecord
zone_list None = []
zone_list (Some zones) = zones

held_zones : (found : FoundZones) → (held found).features ≡ map feature_in (zone_list (zones_in found))
unfolding zone_list
held_zones FoundAs.Absent = refl
held_zones FoundAs.TooLarge = refl
held_zones (FoundAs.Refused code row) = refl
held_zones (FoundAs.Read zones) = refl

listed_values : (o : Option (Bor (List ZoneRecord))) → map (λ e. e.values) (map zone_entry (zone_list (option_map (λ z. z.now) o))) ≡ zone_values o
unfolding zone_list
listed_values None = refl
listed_values (Some zones) = refl

entries_are : (zones : List ZoneRecord) → map feature_entry (map feature_in zones) ≡ map zone_entry zones
entries_are zones = map-map feature_entry feature_in zones

module _ (geo : Geo) (raw : RawFeed) (folder : Folder) (reads : ReadsFolder raw folder) (tells : TellsZones geo (folder Locations) (found_zones raw))
    (o : Option (Bor (List ZoneRecord))) (is : option_map (λ z. z.now) o ≡ zones_in (found_zones raw)) where
  feature_entries : feed_entries geo folder Locations ≡ map zone_entry (zone_list (option_map (λ z. z.now) o))
  feature_entries =
      ap (map feature_entry) (features_are geo (folder Locations) raw.zones reads.zones tells ∙ held_zones raw.zones)
      ∙ entries_are (zone_list (zones_in raw.zones)) ∙ ap (λ z. map zone_entry (zone_list z)) (sym is)

  -- the records of locations.geojson
  pub linked_zones : tables geo folder Locations ≡ zone_values o
  linked_zones = ap (map (λ e. e.values)) feature_entries ∙ listed_values o

  zone_links_at : (p : Option (List ZoneRecord)) → option_map (λ z. z.now) o ≡ p
      → flat_map (λ e. faults_at Locations e.row (location_links (tables geo folder) e.values)) (map zone_entry (zone_list p)) ≡ link_faults geo folder Locations
  zone_links_at p e =
      ap (λ z. flat_map (λ e. faults_at Locations e.row (location_links (tables geo folder) e.values)) (map zone_entry (zone_list z))) (sym e)
      ∙ ap (flat_map (λ e. faults_at Locations e.row (location_links (tables geo folder) e.values))) (sym feature_entries)

  -- the faults of zones that were read, beside the tables
  pub read_zone_links : (zones : List ZoneRecord) → option_map (λ z. z.now) o ≡ Some zones
      → flat_map (λ e. faults_at Locations e.row (location_links (tables geo folder) e.values)) (map zone_entry zones) ≡ link_faults geo folder Locations
  unfolding zone_list
  read_zone_links zones e = zone_links_at (Some zones) e

  -- of none
  pub unread_zone_links : option_map (λ z. z.now) o ≡ None → [] ≡ link_faults geo folder Locations
  unfolding zone_list
  unread_zone_links e = zone_links_at None e

  -- where locations.geojson has no faults, each zone has an id
  pub zones_have_ids : level_one raw ≡ [] → (zones : List ZoneRecord) → option_map (λ z. z.now) o ≡ Some zones → HaveZoneIds zones
  zones_have_ids none zones e = by raw.zones (no_zone_faults raw none) tells (sym is ∙ e)
    where
      by : (found : FoundZones) → zone_faults found ≡ [] → TellsZones geo (folder Locations) found → zones_in found ≡ Some zones → HaveZoneIds zones
      by FoundAs.Absent none tells e = cc
      by FoundAs.TooLarge none tells e = cc
      by (FoundAs.Refused code row) none tells e = cc
      by (FoundAs.Read read) none tells e = subst HaveZoneIds (some_zones read zones e) (λ k d lt.
          let given = tells.given (nil_from_map (λ f. fault Locations f.0 f.1) (repeated (map feature_in read)) none) k (feature_in d) (subst (λ n. k < n) (sym (length-map read feature_in)) lt) in
          filled_given (get_or read k d).id (subst (λ f. f.id ≢ []) (get_or-map feature_in read k d (feature_in d) lt) given))
