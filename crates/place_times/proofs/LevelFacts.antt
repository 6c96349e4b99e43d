-- The fault lists and the times of the tables are those of the folder.
use Rattle.std.proofs.Common.{◌≡◌, ◌≢◌, ℕ, ◌<◌, Bool, true, false, not, ◌&&◌, List, [], ◌∷◌, ◌++◌, None, map, length, get_or, refl, sym, ◌∙◌, ap, subst, arith, lit<}
use Rattle.std.specs.Prelude.{◌==◌, if◌then◌else◌}
use Rattle.std.specs.List.{flat_map}
use Rattle.std.proofs.lemmas.Bool.{eqb-true, true≢false}
use Rattle.std.proofs.lemmas.List.{append-nil, append_assoc}
use Rattle.std.proofs.lemmas.List.Concat.{flat_map-append}
use Rattle.std.proofs.lemmas.Simd.{map-map}
use Rattle.feed_tables.specs.Records.{header_of, table_records}
use Rattle.flex_model.specs.declared.fault.Fault.{Fault}
use Rattle.flex_model.specs.declared.fault.FaultCode.TheVariants as code
use Rattle.flex_model.specs.declared.fault.InputFile.{InputFile}
use Rattle.flex_model.specs.declared.fault.InputFile.TheVariants.{ZoneText, ZoneTzif, Points, Direct, Walks}
use Rattle.flex_model.specs.declared.fault.RawFile.{RawFile}
use Rattle.flex_model.specs.declared.fault.RawFile.TheVariants.{Absent, TooLarge, Bytes}
use Rattle.flex_model.specs.declared.feed.Feed.{Feed}
use Rattle.flex_model.specs.declared.place.Point.{Point}
use Rattle.flex_model.specs.declared.times.Times.{Times}
use Rattle.flex_model.specs.SoundTimes.{AreIds, AreSoundTimes}
use Rattle.feed_meaning.specs.FeedFaults.{first_list}
use Rattle.feed_meaning.specs.FeedValue.{rising}
use Rattle.feed_meaning.specs.Folder.{Contents, Folder, counts_as_present, entries, fetched_faults, file_faults, has_no_record, is_present}
use Rattle.feed_meaning.specs.Rules.{Values, is_empty, repeats_id}
use Rattle.feed_meaning.specs.Tables.{Entry, Schema, entries_of, fault, faults_at, missing_columns, record_faults, schema_faults, table_faults}
use Rattle.feed_meaning.specs.TimesFaults.{BadZones, direct_schema, point_rules, points_schema, times_contents, times_faults, times_level_one, times_level_two, walks_schema, zone_faults}
use Rattle.feed_meaning.specs.TimesValue.{point_of, span_before, span_of, times_of}
use Rattle.feed_meaning.proofs.Kept.{is_kept, nil_parts, records_keep}
use Rattle.feed_meaning.proofs.NamedLists.{kept_ids}
use Rattle.feed_meaning.proofs.SoundTimesFolders.{accepted_times}
use Rattle.place_times.specs.Fetches.{AreFetched}
use Rattle.place_times.specs.Found.{IsFound, entries_in, found_faults, own_faults, records_of, schema_of, values_of_found}
use Rattle.place_times.specs.Levels.{AreAcceptedTables, AreRead, AreTablesOf, HoldsTimes, judged, level_one, link_list, point_link_list, span_link_list, times_in, zone_list}
use Rattle.place_times.specs.declared.fetch.TimesFiles.{TimesFiles}
use Rattle.place_times.specs.declared.found.Found.{Found}
use Rattle.place_times.specs.declared.found.Found.TheVariants.{Nothing, Faulty, Read}
use Rattle.place_times.specs.declared.read.ReadTimes.{ReadTimes}
use Rattle.place_times.specs.declared.read.ReadTimes.TheVariants as read
use Rattle.place_times.specs.declared.read.TimesTables.{TimesTables}
use Rattle.place_times.proofs.FoundFacts.{found_exact}
use Prim.Native.String.{String}

-- ---- lists of faults

regroup : (z p d w : List Fault) → z ++ (p ++ (d ++ (w ++ []))) ≡ ((z ++ p) ++ d) ++ w
regroup z p d w =
    ap (λ x. z ++ (p ++ (d ++ x))) (append-nil w) ∙ sym (append_assoc z p (d ++ w)) ∙ sym (append_assoc (z ++ p) d w)

regroup-three : (p d w : List Fault) → p ++ (d ++ (w ++ [])) ≡ (p ++ d) ++ w
regroup-three p d w = ap (λ x. p ++ (d ++ x)) (append-nil w) ∙ sym (append_assoc p d w)

pub first_full : (first second : List Fault) → first ≢ [] → first_list first second ≡ first
first_full [] second full = absurd (full refl)
first_full (f ∷ more) second full = refl

pub not_empty : {X : Type 0} (xs : List X) → (length xs == 0) ≡ false → xs ≢ []
not_empty {X = X} xs e none = true≢false (sym (ap (λ (ys : List X). length ys == 0) none) ∙ e)

pub is_nil : {X : Type 0} (xs : List X) → (length xs == 0) ≡ true → xs ≡ []
is_nil [] e = refl
is_nil (x ∷ xs) e = let h = eqb-true (length (x ∷ xs)) 0 e in absurd (omega (arith, h))

-- ---- accepted tables

by-missing : (file : InputFile) (schema : Schema) (missing : List String) (records : List (List (List ℕ))) → schema_faults file schema missing records ≡ []
    → record_faults file schema.rules (entries_of records) ≡ []
by-missing file schema [] records none = none
by-missing file schema (column ∷ more) records none = cc

-- the records of a table without faults have none
pub alone_of : (file : InputFile) (found : Found) → found_faults file found ≡ [] → record_faults file (schema_of file).rules (records_of found) ≡ []
unfolding Rattle.feed_meaning.specs.Tables.with_earlier_from
alone_of file Nothing none = refl
alone_of file (Faulty f) none = refl
alone_of file (Read t) none = by-missing file (schema_of file) (missing_columns (schema_of file) (header_of t)) t none

-- and they are those of the file
pub records_exact : (file : InputFile) (raw : RawFile) (found : Found) → IsFound file raw found → found_faults file found ≡ [] → entries_in raw ≡ records_of found
records_exact file raw Nothing is none = is.1
records_exact file raw (Faulty f) is none = cc
records_exact file raw (Read t) is none = ap entries_of (sym is.1)

-- the ids of accepted points
pub accepted_ids : (found : Found) (points : List Point) → found_faults Points found ≡ [] → points ≡ map point_of (values_of_found found) → AreIds (map (λ point. point.id) points)
accepted_ids found points none is =
    let rs = values_of_found found in
    let kept = records_keep Points point_rules (records_of found) (alone_of Points found none) in
    subst AreIds (sym (ap (map (λ (point : Point). point.id)) is ∙ map-map (λ (point : Point). point.id) point_of rs))
    (kept_ids "point_id" rs (record {
      given = λ i d low. is_kept code.EmptyField (is_empty (get_or rs i d "point_id")) (kept.at i d low 0 None (lit< tt));
      fresh = λ i d low. is_kept code.DuplicateKey (repeats_id "point_id" (Rattle.std.proofs.Common.take i rs) (get_or rs i d)) (kept.at i d low 1 None (lit< tt));
    }))

-- no table has a fault where the whole list has none
pub accepted_tables : (zone : List Fault) (tables : TimesTables) → level_one zone tables ≡ [] → AreAcceptedTables tables
accepted_tables zone tables none =
    let last = nil_parts ((zone ++ found_faults Points tables.points) ++ found_faults Direct tables.direct) (found_faults Walks tables.walks) none in
    let middle = nil_parts (zone ++ found_faults Points tables.points) (found_faults Direct tables.direct) last.0 in
    record { points = (nil_parts zone (found_faults Points tables.points) middle.0).1; direct = middle.1; walks = last.1 }

-- ---- the folder

by-blank : (b : Bool) (own : List Fault) → (if not (true && b) then own else []) ≡ (if b then [] else own)
by-blank true own = refl
by-blank false own = refl

module _ (is_bad : Bool) (folder : Folder) where
  abbrev is_bad_zone : BadZones
  is_bad_zone = judged is_bad

  abbrev contents : Contents
  contents = times_contents is_bad_zone

  abbrev at : InputFile → List Fault
  at file = file_faults contents folder file

  points-own : (raw : RawFile) → (if counts_as_present Points raw then fetched_faults contents Points raw else []) ≡ own_faults Points points_schema raw
  points-own Absent = refl
  points-own TooLarge = refl
  points-own (Bytes bytes) = by-blank (has_no_record (table_records bytes)) (table_faults Points points_schema (table_records bytes))

  direct-own : (raw : RawFile) → (if counts_as_present Direct raw then fetched_faults contents Direct raw else []) ≡ own_faults Direct direct_schema raw
  direct-own Absent = refl
  direct-own TooLarge = refl
  direct-own (Bytes bytes) = by-blank (has_no_record (table_records bytes)) (table_faults Direct direct_schema (table_records bytes))

  walks-own : (raw : RawFile) → (if counts_as_present Walks raw then fetched_faults contents Walks raw else []) ≡ own_faults Walks walks_schema raw
  walks-own Absent = refl
  walks-own TooLarge = refl
  walks-own (Bytes bytes) = by-blank (has_no_record (table_records bytes)) (table_faults Walks walks_schema (table_records bytes))

  abbrev zone-files : List InputFile
  zone-files = ZoneText ∷ (if is_present folder ZoneText then [] else ZoneTzif ∷ [])

  -- the faults of the zone files by what zone.txt was found to be
  abbrev with_text : RawFile → List Fault
  with_text text =
      (if counts_as_present ZoneText text then fetched_faults contents ZoneText text
      else if not (counts_as_present ZoneTzif (folder ZoneTzif)) then fault ZoneText 0 code.MissingFile ∷ []
      else [])
      ++ flat_map at (if counts_as_present ZoneText text then [] else ZoneTzif ∷ [])

  -- and by what zone.tzif was found to be, where zone.txt is absent
  abbrev with_tzif : RawFile → List Fault
  with_tzif tzif =
      (if not (counts_as_present ZoneTzif tzif) then fault ZoneText 0 code.MissingFile ∷ [] else [])
      ++ ((if counts_as_present ZoneTzif tzif then fetched_faults contents ZoneTzif tzif else []) ++ [])

  zone-part : (text tzif : RawFile) → text ≡ folder ZoneText → (text ≡ Absent → tzif ≡ folder ZoneTzif) → flat_map at zone-files ≡ zone_list text tzif is_bad
  zone-part Absent Absent e f = ap with_text (sym e) ∙ ap with_tzif (sym (f refl))
  zone-part Absent TooLarge e f = ap with_text (sym e) ∙ ap with_tzif (sym (f refl))
  zone-part Absent (Bytes bytes) e f = ap with_text (sym e) ∙ ap with_tzif (sym (f refl)) ∙ append-nil (zone_faults is_bad_zone ZoneTzif bytes)
  zone-part TooLarge tzif e f = ap with_text (sym e)
  zone-part (Bytes bytes) tzif e f = ap with_text (sym e) ∙ append-nil (zone_faults is_bad_zone ZoneText bytes)

  module _ (files : TimesFiles) (fetched : AreFetched folder files) (tables : TimesTables) (are : AreTablesOf files tables) where
    abbrev zone : List Fault
    zone = zone_list files.zone_text files.zone_tzif is_bad

    points-exact : at Points ≡ found_faults Points tables.points
    points-exact = points-own (folder Points) ∙ ap (own_faults Points points_schema) (sym fetched.points) ∙ found_exact Points files.points tables.points are.points

    direct-exact : at Direct ≡ found_faults Direct tables.direct
    direct-exact = direct-own (folder Direct) ∙ ap (own_faults Direct direct_schema) (sym fetched.direct) ∙ found_exact Direct files.direct tables.direct are.direct

    walks-exact : at Walks ≡ found_faults Walks tables.walks
    walks-exact = walks-own (folder Walks) ∙ ap (own_faults Walks walks_schema) (sym fetched.walks) ∙ found_exact Walks files.walks tables.walks are.walks

    pub level_one_exact : times_level_one is_bad_zone folder ≡ level_one zone tables
    level_one_exact =
        flat_map-append at zone-files (Points ∷ Direct ∷ Walks ∷ [])
        ∙ ap (λ z. z ++ (at Points ++ (at Direct ++ (at Walks ++ [])))) (zone-part files.zone_text files.zone_tzif fetched.zone_text fetched.zone_tzif)
        ∙ ap (λ p. zone ++ (p ++ (at Direct ++ (at Walks ++ [])))) points-exact
        ∙ ap (λ d. zone ++ (found_faults Points tables.points ++ (d ++ (at Walks ++ [])))) direct-exact
        ∙ ap (λ w. zone ++ (found_faults Points tables.points ++ (found_faults Direct tables.direct ++ (w ++ [])))) walks-exact
        ∙ regroup zone (found_faults Points tables.points) (found_faults Direct tables.direct) (found_faults Walks tables.walks)

    -- a list that isn't empty is the folder's
    pub faults_given : (feed : Feed) (alone : List Fault) → alone ≡ level_one zone tables → alone ≢ [] → AreRead is_bad_zone feed folder (read.Faulty alone)
    faults_given feed alone is full =
        let same : times_faults is_bad_zone feed folder ≡ alone =
        ap (λ first. first_list first (times_level_two feed folder)) (level_one_exact ∙ sym is) ∙ first_full alone (times_level_two feed folder) full in
        (λ none. full (sym same ∙ none), sym same)

    module _ (none : level_one zone tables ≡ []) where
      abbrev accepted : AreAcceptedTables tables
      accepted = accepted_tables zone tables none

      points-records : entries folder Points ≡ records_of tables.points
      points-records = ap entries_in (sym fetched.points) ∙ records_exact Points files.points tables.points are.points accepted.points

      direct-records : entries folder Direct ≡ records_of tables.direct
      direct-records = ap entries_in (sym fetched.direct) ∙ records_exact Direct files.direct tables.direct are.direct accepted.direct

      walks-records : entries folder Walks ≡ records_of tables.walks
      walks-records = ap entries_in (sym fetched.walks) ∙ records_exact Walks files.walks tables.walks are.walks accepted.walks

      abbrev values_at : List Entry → List Values
      values_at es = map (λ e. e.values) es

      abbrev level_two_by : Feed → List Entry → List Entry → List Entry → List Fault
      level_two_by feed ps ds ws =
          flat_map (λ e. faults_at Points e.row (Rattle.feed_meaning.specs.TimesFaults.point_links feed e.values)) ps
          ++ (flat_map (λ e. faults_at Direct e.row (Rattle.feed_meaning.specs.TimesFaults.span_links feed (values_at ps) e.values)) ds
          ++ (flat_map (λ e. faults_at Walks e.row (Rattle.feed_meaning.specs.TimesFaults.span_links feed (values_at ps) e.values)) ws ++ []))

      level_two_exact : (feed : Feed) → times_level_two feed folder ≡ link_list feed (values_of_found tables.points) tables
      level_two_exact feed =
          ap (λ ps. level_two_by feed ps (entries folder Direct) (entries folder Walks)) points-records
          ∙ ap (λ ds. level_two_by feed (records_of tables.points) ds (entries folder Walks)) direct-records
          ∙ ap (λ ws. level_two_by feed (records_of tables.points) (records_of tables.direct) ws) walks-records
          ∙ regroup-three (point_link_list feed tables.points) (span_link_list feed (values_of_found tables.points) Direct tables.direct)
          (span_link_list feed (values_of_found tables.points) Walks tables.walks)

      abbrev times_by : Feed → List Entry → List Entry → List Entry → Times
      times_by feed ps ds ws = record {
        points = map point_of (values_at ps);
        direct = rising span_before (map (span_of feed (map point_of (values_at ps))) (values_at ds));
        walks = rising span_before (map (span_of feed (map point_of (values_at ps))) (values_at ws));
      }

      times_exact : (feed : Feed) → times_of feed folder ≡ times_in feed tables
      times_exact feed =
          ap (λ ps. times_by feed ps (entries folder Direct) (entries folder Walks)) points-records
          ∙ ap (λ ds. times_by feed (records_of tables.points) ds (entries folder Walks)) direct-records
          ∙ ap (λ ws. times_by feed (records_of tables.points) (records_of tables.direct) ws) walks-records

      faults_exact : (feed : Feed) → times_faults is_bad_zone feed folder ≡ link_list feed (values_of_found tables.points) tables
      faults_exact feed = ap (λ first. first_list first (times_level_two feed folder)) (level_one_exact ∙ none) ∙ level_two_exact feed

      -- what accepted tables hold is what the folder holds
      pub accepted_read : (feed : Feed) (r : ReadTimes) → HoldsTimes (link_list feed (values_of_found tables.points) tables) (times_in feed tables) r → AreRead is_bad_zone feed folder r
      accepted_read feed (read.Clean times) h =
          let clean : times_faults is_bad_zone feed folder ≡ [] = faults_exact feed ∙ h.0 in
          let same : times ≡ times_of feed folder = h.1 ∙ sym (times_exact feed) in
          (clean, same, subst (AreSoundTimes feed) (sym same) (accepted_times is_bad_zone feed folder clean))
      accepted_read feed (read.Faulty faults) h = (λ clean. h.0 (sym (faults_exact feed) ∙ clean), h.1 ∙ sym (faults_exact feed))

-- ---- without a zone

-- where no zone was read there is a fault
pub zone_list_full : (text tzif : RawFile) (tables : TimesTables) → level_one (zone_list text tzif true) tables ≢ []
zone_list_full Absent Absent tables e = cc
zone_list_full Absent TooLarge tables e = cc
zone_list_full Absent (Bytes bytes) tables e = cc
zone_list_full TooLarge tzif tables e = cc
zone_list_full (Bytes bytes) tzif tables e = cc
