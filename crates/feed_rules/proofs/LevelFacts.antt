-- The faults of the files as they were read are those of the folder.
use Rattle.std.proofs.Common.{◌≡◌, ℕ, ◌<◌, Bool, true, false, not, List, [], ◌∷◌, ◌++◌, ◌+◌, get_or, map, take, refl, sym, ◌∙◌, ap, lit<}
use Rattle.std.specs.Prelude.{if◌then◌else◌}
use Rattle.std.specs.List.{flat_map, list_all}
use Rattle.std.proofs.lemmas.Bool.{and_parts}
use Rattle.std.proofs.lemmas.List.{flat_map_more, take_more}
use Rattle.std.proofs.lemmas.List.Folds.{list_all_at}
use Rattle.flex_model.specs.declared.fault.Fault.{Fault}
use Rattle.flex_model.specs.declared.fault.InputFile.{InputFile}
use Rattle.flex_model.specs.declared.fault.InputFile.TheVariants.{Agency, Stops, Routes, Trips, StopTimes, Calendar, CalendarDates, Locations, LocationGroups, LocationGroupStops, BookingRules, Transfers, Frequencies, ZoneText, ZoneTzif, Points, Direct, Walks, Queries}
use Rattle.flex_model.specs.declared.fault.RawFile.{RawFile}
use Rattle.flex_model.specs.declared.fault.RawFile.TheVariants as raw_file
use Rattle.feed_tables.specs.Records.{table_records}
use Rattle.feed_meaning.specs.FeedFaults.{Geo, feed_contents, feed_files, feed_level_one}
use Rattle.feed_meaning.specs.Folder.{Folder, counts_as_present, fetched_faults, file_faults, is_needed}
use Rattle.feed_meaning.specs.Tables.{Entry, fault, record_faults, table_faults, with_earlier}
use Rattle.feed_meaning.proofs.Kept.{parts_are_nil}
use Rattle.feed_rules.specs.Folders.{ReadsFolder, found_of, found_zones, is_feed_file, is_feed_table}
use Rattle.feed_rules.specs.Found.{found_faults, missing_fault, schema_of}
use Rattle.feed_rules.specs.Levels.{level_one, needs, own_faults}
use Rattle.feed_rules.specs.Zones.{AreFoundZones, TellsZones, are_found, zone_faults}
use Rattle.feed_rules.specs.declared.folder.RawFeed.{RawFeed}
use Rattle.feed_rules.specs.declared.zones.FoundZones.{FoundZones}
use Rattle.feed_rules.specs.declared.zones.FoundZones.TheVariants as FoundAs
use Rattle.feed_rules.proofs.FoundFacts.{found_faults-exact, is_found-exact}

-- the same parts, where they are the same at each item that passes
flat_map-on : {X A : Type 0} (p : X → Bool) (f g : X → List A) → ((x : X) → p x ≡ true → f x ≡ g x) → (xs : List X) → list_all p xs ≡ true
    → flat_map f xs ≡ flat_map g xs
flat_map-on p f g same [] e = refl
flat_map-on p f g same (x ∷ xs) e =
    let both = and_parts (p x) (list_all p xs) e in
    ap (λ ys. ys ++ flat_map f xs) (same x both.0) ∙ ap (λ ys. g x ++ ys) (flat_map-on p f g same xs both.1)

-- parts that are all empty
pub no_parts : {X A : Type 0} (xs : List X) → flat_map {X = X} {A = A} (λ x. []) xs ≡ []
no_parts [] = refl
no_parts (x ∷ xs) = no_parts xs

-- the records of other files than the tables have no faults
pub no_record_faults : (file : InputFile) → is_feed_table file ≡ false → (es : List Entry) → record_faults file (schema_of file).rules es ≡ []
no_record_faults Locations e es = no_parts (with_earlier es)
no_record_faults ZoneText e es = no_parts (with_earlier es)
no_record_faults ZoneTzif e es = no_parts (with_earlier es)
no_record_faults Points e es = no_parts (with_earlier es)
no_record_faults Direct e es = no_parts (with_earlier es)
no_record_faults Walks e es = no_parts (with_earlier es)
no_record_faults Queries e es = no_parts (with_earlier es)
no_record_faults file e es = cc

-- a file that isn't locations.geojson is judged as a table
pub table_own : (raw : RawFeed) (file : InputFile) → (file ≡ Locations → ⊥) → own_faults raw file ≡ found_faults file (needs raw file) (found_of raw file)
table_own raw Agency other = refl
table_own raw Stops other = refl
table_own raw Routes other = refl
table_own raw Trips other = refl
table_own raw StopTimes other = refl
table_own raw Calendar other = refl
table_own raw CalendarDates other = refl
table_own raw Locations other = absurd (other refl)
table_own raw LocationGroups other = refl
table_own raw LocationGroupStops other = refl
table_own raw BookingRules other = refl
table_own raw Transfers other = refl
table_own raw Frequencies other = refl
table_own raw ZoneText other = refl
table_own raw ZoneTzif other = refl
table_own raw Points other = refl
table_own raw Direct other = refl
table_own raw Walks other = refl
table_own raw Queries other = refl

-- a file that is none of the feed's has no faults
pub other_own : (raw : RawFeed) (file : InputFile) → is_feed_table file ≡ false → (file ≡ Locations → ⊥) → own_faults raw file ≡ []
other_own raw Locations e other = absurd (other refl)
other_own raw ZoneText e other = refl
other_own raw ZoneTzif e other = refl
other_own raw Points e other = refl
other_own raw Direct e other = refl
other_own raw Walks e other = refl
other_own raw Queries e other = refl
other_own raw file e other = cc

-- a file of a feed is a table or locations.geojson
pub feed_table : (file : InputFile) → is_feed_file file ≡ true → (file ≡ Locations → ⊥) → is_feed_table file ≡ true
feed_table Locations e other = absurd (other refl)
feed_table Agency e other = refl
feed_table Stops e other = refl
feed_table Routes e other = refl
feed_table Trips e other = refl
feed_table StopTimes e other = refl
feed_table Calendar e other = refl
feed_table CalendarDates e other = refl
feed_table LocationGroups e other = refl
feed_table LocationGroupStops e other = refl
feed_table BookingRules e other = refl
feed_table Transfers e other = refl
feed_table Frequencies e other = refl
feed_table file e other = cc

-- where there are no faults no file has one
module _ (raw : RawFeed) (none : level_one raw ≡ []) where
  each_own : (i : ℕ) (d : InputFile) → i < 13 → own_faults raw (get_or feed_files i d) ≡ []
  each_own = parts_are_nil (own_faults raw) feed_files none

  pub no_zone_faults : zone_faults (found_zones raw) ≡ []
  no_zone_faults = each_own 7 Agency (lit< tt)

  pub no_own : (file : InputFile) → is_feed_table file ≡ true → found_faults file (needs raw file) (found_of raw file) ≡ []
  no_own Agency e = each_own 0 Agency (lit< tt)
  no_own Stops e = each_own 1 Agency (lit< tt)
  no_own Routes e = each_own 2 Agency (lit< tt)
  no_own Trips e = each_own 3 Agency (lit< tt)
  no_own StopTimes e = each_own 4 Agency (lit< tt)
  no_own Calendar e = each_own 5 Agency (lit< tt)
  no_own CalendarDates e = each_own 6 Agency (lit< tt)
  no_own LocationGroups e = each_own 8 Agency (lit< tt)
  no_own LocationGroupStops e = each_own 9 Agency (lit< tt)
  no_own BookingRules e = each_own 10 Agency (lit< tt)
  no_own Transfers e = each_own 11 Agency (lit< tt)
  no_own Frequencies e = each_own 12 Agency (lit< tt)
  no_own file e = cc

pub all_files : (i : ℕ) (d : InputFile) → i < 13 → is_feed_file (get_or feed_files i d) ≡ true
all_files i d low = by (is_feed_file (get_or feed_files i d)) refl
  where
    by : (b : Bool) → is_feed_file (get_or feed_files i d) ≡ b → is_feed_file (get_or feed_files i d) ≡ true
    by true e = e
    by false e = let h = list_all_at is_feed_file feed_files i d low e in cc

-- the faults at one more file
pub file_more : (f : InputFile → List Fault) (i : ℕ) (d : InputFile) (faults new own : List Fault) → i < 13 → faults ≡ flat_map f (take i feed_files)
    → own ≡ f (get_or feed_files i d) → new ≡ faults ++ own → new ≡ flat_map f (take (i + 1) feed_files)
file_more f i d faults new own low seen here pushed =
    let file = get_or feed_files i d in
    pushed ∙ ap (λ xs. xs ++ own) seen ∙ ap (λ ys. flat_map f (take i feed_files) ++ ys) here
    ∙ flat_map_more f [] (take i feed_files) file ∙ ap (flat_map f) (sym (take_more feed_files i d low))

-- locations.geojson counts as present where it was found
pub are_found-exact : (raw : RawFile) (found : FoundZones) → AreFoundZones raw found → are_found found ≡ counts_as_present Locations raw
are_found-exact raw FoundAs.Absent e = sym (ap (counts_as_present Locations) e)
are_found-exact raw FoundAs.TooLarge e = sym (ap (counts_as_present Locations) e)
are_found-exact raw (FoundAs.Refused code row) is = sym (ap (counts_as_present Locations) is.1)
are_found-exact raw (FoundAs.Read read) is = sym (ap (counts_as_present Locations) is.1)

module _ (geo : Geo) where
  told_faults : (raw : RawFile) (bytes : List ℕ) (faults : List Fault) → raw ≡ raw_file.Bytes bytes → faults ≡ map (λ f. fault Locations f.0 f.1) (geo bytes).faults
      → faults ≡ (if counts_as_present Locations raw then fetched_faults (feed_contents geo) Locations raw else [])
  told_faults raw bytes faults is told = told ∙ sym (ap (λ r. if counts_as_present Locations r then fetched_faults (feed_contents geo) Locations r else []) is)

  -- the faults of locations.geojson by itself
  pub zone_faults-exact : (raw : RawFile) (found : FoundZones) → AreFoundZones raw found → TellsZones geo raw found
      → zone_faults found ≡ (if counts_as_present Locations raw then fetched_faults (feed_contents geo) Locations raw else [])
  zone_faults-exact raw FoundAs.Absent e tells = sym (ap (λ r. if counts_as_present Locations r then fetched_faults (feed_contents geo) Locations r else []) e)
  zone_faults-exact raw FoundAs.TooLarge e tells = sym (ap (λ r. if counts_as_present Locations r then fetched_faults (feed_contents geo) Locations r else []) e)
  zone_faults-exact raw (FoundAs.Refused code row) (bytes, e, refused) tells =
      told_faults raw bytes (zone_faults (FoundAs.Refused code row)) e (ap (λ z. map (λ f. fault Locations f.0 f.1) z.faults) (sym (tells.told bytes e)))
  zone_faults-exact raw (FoundAs.Read read) (bytes, e, hold) tells =
      told_faults raw bytes (zone_faults (FoundAs.Read read)) e (ap (λ z. map (λ f. fault Locations f.0 f.1) z.faults) (sym (tells.told bytes e)))

module _ (geo : Geo) (raw : RawFeed) (folder : Folder) (reads : ReadsFolder raw folder) (tells : TellsZones geo (folder Locations) (found_zones raw)) where
  -- the feed needs the table
  needs-exact : (file : InputFile) → is_feed_table file ≡ true → needs raw file ≡ is_needed folder file
  needs-exact Agency e = refl
  needs-exact Stops e = ap not (are_found-exact (folder Locations) raw.zones reads.zones)
  needs-exact Routes e = refl
  needs-exact Trips e = refl
  needs-exact StopTimes e = refl
  needs-exact Calendar e = ap not (is_found-exact CalendarDates (folder CalendarDates) raw.calendar_dates (reads.tables CalendarDates refl))
  needs-exact CalendarDates e = refl
  needs-exact LocationGroups e = refl
  needs-exact LocationGroupStops e = refl
  needs-exact BookingRules e = refl
  needs-exact Transfers e = refl
  needs-exact Frequencies e = refl
  needs-exact file e = cc

  -- the faults of a table's bytes
  says : (file : InputFile) → is_feed_table file ≡ true → (bytes : List ℕ) → feed_contents geo file bytes ≡ table_faults file (schema_of file) (table_records bytes)
  says Agency e bytes = refl
  says Stops e bytes = refl
  says Routes e bytes = refl
  says Trips e bytes = refl
  says StopTimes e bytes = refl
  says Calendar e bytes = refl
  says CalendarDates e bytes = refl
  says LocationGroups e bytes = refl
  says LocationGroupStops e bytes = refl
  says BookingRules e bytes = refl
  says Transfers e bytes = refl
  says Frequencies e bytes = refl
  says file e bytes = cc

  table-exact : (file : InputFile) → is_feed_table file ≡ true → found_faults file (needs raw file) (found_of raw file) ≡ file_faults (feed_contents geo) folder file
  table-exact file e =
      found_faults-exact file (folder file) (feed_contents geo) (needs raw file) (found_of raw file) (says file e) (reads.tables file e)
      ∙ ap (λ n. if counts_as_present file (folder file) then fetched_faults (feed_contents geo) file (folder file) else missing_fault file n) (needs-exact file e)

  own-exact : (file : InputFile) → is_feed_file file ≡ true → own_faults raw file ≡ file_faults (feed_contents geo) folder file
  own-exact Locations e = zone_faults-exact geo (folder Locations) raw.zones reads.zones tells
  own-exact Agency e = table-exact Agency refl
  own-exact Stops e = table-exact Stops refl
  own-exact Routes e = table-exact Routes refl
  own-exact Trips e = table-exact Trips refl
  own-exact StopTimes e = table-exact StopTimes refl
  own-exact Calendar e = table-exact Calendar refl
  own-exact CalendarDates e = table-exact CalendarDates refl
  own-exact LocationGroups e = table-exact LocationGroups refl
  own-exact LocationGroupStops e = table-exact LocationGroupStops refl
  own-exact BookingRules e = table-exact BookingRules refl
  own-exact Transfers e = table-exact Transfers refl
  own-exact Frequencies e = table-exact Frequencies refl
  own-exact file e = cc

  -- the faults of the files by themselves
  pub level_one-exact : level_one raw ≡ feed_level_one geo folder
  level_one-exact = flat_map-on is_feed_file (own_faults raw) (file_faults (feed_contents geo) folder) own-exact feed_files refl
