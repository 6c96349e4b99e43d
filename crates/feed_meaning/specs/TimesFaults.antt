-- The fault list of a times folder, beside an accepted feed. The folder and its rules are this
-- project's own.
use Rattle.std.specs.Prelude.{ℕ, Bool, not, ◌&&◌, ◌||◌, if◌then◌else◌, List, [], ◌∷◌, ◌++◌, map}
use Rattle.std.specs.List.{flat_map, list_any}
use Rattle.std.specs.Str.{bytes_eq}
use Rattle.feed_tables.specs.Records.{table_records}
use Rattle.flex_model.specs.declared.fault.Fault.{Fault}
use Rattle.flex_model.specs.declared.fault.FaultCode.TheVariants.{EmptyField, BadCoordinate, BadNumber, BadZone, DuplicateKey, SharedId, UnknownId}
use Rattle.flex_model.specs.declared.fault.InputFile.{InputFile}
use Rattle.flex_model.specs.declared.fault.InputFile.TheVariants.{ZoneText, ZoneTzif, Points, Direct, Walks}
use Rattle.flex_model.specs.declared.feed.Feed.{Feed}
use Rattle.feed_meaning.specs.FeedFaults.{first_list, table}
use Rattle.feed_meaning.specs.Folder.{Contents, Folder, entries, file_faults, is_present}
use Rattle.field_text.specs.Grammars.{count, degree}
use Rattle.feed_meaning.specs.Rules.{Rule, Rules, Values, is_empty, is_no, repeats_id, repeats_ids, rule}
use Rattle.feed_meaning.specs.Tables.{Schema, fault, faults_at, table_faults}

abbrev pub point_rules : Rules
point_rules earlier r =
    rule EmptyField (is_empty (r "point_id"))
    ∷ rule DuplicateKey (repeats_id "point_id" earlier r)
    ∷ rule BadCoordinate (is_no (degree 90) (r "point_lat"))
    ∷ rule BadCoordinate (is_no (degree 180) (r "point_lon"))
    ∷ []

-- of direct and walking times, up to the greatest number of seconds
abbrev pub span_rules : ℕ → Rules
span_rules greatest earlier r =
    rule EmptyField (is_empty (r "from_id"))
    ∷ rule EmptyField (is_empty (r "to_id"))
    ∷ rule BadNumber (is_no (count greatest) (r "seconds"))
    ∷ rule DuplicateKey (repeats_ids "from_id" "to_id" earlier r)
    ∷ []

-- the text is the id of a stop
abbrev pub is_stop : Feed → List ℕ → Bool
is_stop feed text = list_any (λ stop. bytes_eq text stop.id) feed.stops

-- the text is the id of a stop where one can board
abbrev pub is_boarding_stop : Feed → List ℕ → Bool
is_boarding_stop feed text = list_any (λ stop. bytes_eq text stop.id && stop.boards) feed.stops

abbrev pub point_links : Feed → Values → List Rule
point_links feed r =
    rule SharedId (is_stop feed (r "point_id"))
    ∷ []

-- the text is the id of a point, or of a stop where one can board
abbrev pub is_place : Feed → List Values → List ℕ → Bool
is_place feed points text =
    list_any (λ p. bytes_eq text (p "point_id")) points || is_boarding_stop feed text

abbrev pub span_links : Feed → List Values → Values → List Rule
span_links feed points r =
    rule UnknownId (not (is_place feed points (r "from_id")))
    ∷ rule UnknownId (not (is_place feed points (r "to_id")))
    ∷ []

-- which bytes of the two zone files are bad
abbrev pub BadZones : Type 0
BadZones = InputFile → List ℕ → Bool

abbrev pub zone_faults : BadZones → InputFile → List ℕ → List Fault
zone_faults is_bad_zone file bytes =
    if is_bad_zone file bytes then fault file 0 BadZone ∷ [] else []

abbrev pub points_schema : Schema
points_schema = table ("point_id" ∷ "point_lat" ∷ "point_lon" ∷ []) point_rules

-- direct times up to a week
abbrev pub direct_schema : Schema
direct_schema = table ("from_id" ∷ "to_id" ∷ "seconds" ∷ []) (span_rules 604800)

-- walking times up to a day
abbrev pub walks_schema : Schema
walks_schema = table ("from_id" ∷ "to_id" ∷ "seconds" ∷ []) (span_rules 86400)

abbrev pub times_contents : BadZones → Contents
times_contents is_bad_zone ZoneText bytes = zone_faults is_bad_zone ZoneText bytes
times_contents is_bad_zone ZoneTzif bytes = zone_faults is_bad_zone ZoneTzif bytes
times_contents is_bad_zone Points bytes = table_faults Points points_schema (table_records bytes)
times_contents is_bad_zone Direct bytes = table_faults Direct direct_schema (table_records bytes)
times_contents is_bad_zone Walks bytes = table_faults Walks walks_schema (table_records bytes)
times_contents is_bad_zone file bytes = []

-- the files that are looked at: zone.tzif only where zone.txt is absent
abbrev pub times_files : Folder → List InputFile
times_files folder =
    ZoneText ∷ (if is_present folder ZoneText then [] else ZoneTzif ∷ [])
    ++ Points ∷ Direct ∷ Walks ∷ []

abbrev pub times_level_one : BadZones → Folder → List Fault
times_level_one is_bad_zone folder =
    flat_map (file_faults (times_contents is_bad_zone) folder) (times_files folder)

abbrev pub points_of : Folder → List Values
points_of folder = map (λ e. e.values) (entries folder Points)

abbrev pub times_links : Feed → Folder → InputFile → Values → List Rule
times_links feed folder Points r = point_links feed r
times_links feed folder Direct r = span_links feed (points_of folder) r
times_links feed folder Walks r = span_links feed (points_of folder) r
times_links feed folder file r = []

abbrev pub times_link_faults : Feed → Folder → InputFile → List Fault
times_link_faults feed folder file =
    flat_map (λ e. faults_at file e.row (times_links feed folder file e.values))
    (entries folder file)

abbrev pub times_level_two : Feed → Folder → List Fault
times_level_two feed folder =
    flat_map (times_link_faults feed folder) (Points ∷ Direct ∷ Walks ∷ [])

-- the fault list of a times folder
abbrev pub times_faults : BadZones → Feed → Folder → List Fault
times_faults is_bad_zone feed folder =
    first_list (times_level_one is_bad_zone folder) (times_level_two feed folder)
