-- The faults between the tables that were read are those of the folder.
use Rattle.std.proofs.Common.{◌≡◌, ℕ, ◌<◌, Bool, true, false, List, [], ◌∷◌, ◌&&◌, suc, Option, Some, None, length, map, get_or, refl, sym, ◌∙◌, ap, subst, arith, lit<}
use Rattle.std.specs.Prelude.{if◌then◌else◌, IfOk, Result}
use Rattle.std.specs.Borrow.{Bor}
use Rattle.std.specs.List.{flat_map, list_all}
use Rattle.std.specs.Option.{option_map}
use Rattle.std.proofs.lemmas.List.{get_or-map, length-map}
use Rattle.std.proofs.lemmas.Result.{IfOk-weaker}
use Rattle.feed_tables.specs.Records.{header_of, table_records}
use Rattle.feed_tables.specs.Refusals.{is_given}
use Rattle.flex_model.specs.declared.fault.FaultCode.TheVariants as code
use Rattle.flex_model.specs.declared.fault.Fault.{Fault}
use Rattle.flex_model.specs.declared.fault.InputFile.{InputFile}
use Rattle.flex_model.specs.declared.fault.InputFile.TheVariants.{Agency, Stops, Routes, Trips, StopTimes, Calendar, CalendarDates, Locations, LocationGroups, LocationGroupStops, BookingRules, Transfers, Frequencies, ZoneText, ZoneTzif, Points, Direct, Walks, Queries}
use Rattle.feed_meaning.specs.FeedFaults.{Geo, feed_entries, groups_schema, link_faults, links_of, tables}
use Rattle.feed_meaning.specs.FeedLinks.{Tables}
use Rattle.feed_meaning.specs.FeedRules.{group_rules}
use Rattle.feed_meaning.specs.Folder.{Folder, bytes_of, entries}
use Rattle.feed_meaning.specs.Rules.{is_empty}
use Rattle.feed_meaning.specs.Tables.{Entry, entries_of, faults_at, missing_columns, schema_faults}
use Rattle.feed_meaning.proofs.Kept.{ObeysRules, is_kept, nil_from_map, records_keep}
use Rattle.feed_meaning.proofs.NamedLists.{filled_is_given}
use Rattle.feed_rules.specs.Folders.{ReadsFolder, found_of, is_feed_table, raw_table, table_in, table_of}
use Rattle.feed_rules.specs.Found.{found_faults}
use Rattle.feed_rules.specs.Levels.{level_one, needs}
use Rattle.feed_rules.specs.Links.{HaveGroupIds, StandFor, records_in}
use Rattle.feed_rules.specs.Orders.{AreOrdersOf}
use Rattle.feed_rules.specs.declared.found.Found.{Found}
use Rattle.feed_rules.specs.declared.found.Found.TheVariants.{Absent, TooLarge, Refused, Read}
use Rattle.feed_rules.specs.declared.folder.RawFeed.{RawFeed}
use Rattle.feed_rules.specs.declared.links.LinkIds.{LinkIds}
use Rattle.feed_rules.specs.declared.orders.TripOrder.{TripOrder}
use Rattle.feed_rules.proofs.KeptTables.{linked, table_bytes}
use Rattle.feed_rules.proofs.LevelFacts.{no_own, no_parts}
use Prim.Native.String.{String}

-- the file's records name records of other files
abbrev pub has_links : InputFile → Bool
has_links Trips = true
has_links StopTimes = true
has_links LocationGroups = true
has_links LocationGroupStops = true
has_links BookingRules = true
has_links Transfers = true
has_links Frequencies = true
has_links file = false

-- a table whose records name no others has no faults beside them
pub no_link_faults : (file : InputFile) (others : Tables) (es : List Entry) → is_feed_table file ≡ true → has_links file ≡ false
    → flat_map (λ e. faults_at file e.row (links_of file others e.values)) es ≡ []
no_link_faults Agency others es e none = no_parts es
no_link_faults Stops others es e none = no_parts es
no_link_faults Routes others es e none = no_parts es
no_link_faults Calendar others es e none = no_parts es
no_link_faults CalendarDates others es e none = no_parts es
no_link_faults file others es e none = cc

-- faults are those of a file's records beside the others
abbrev pub AreLinkFaults : InputFile → List Entry → LinkIds → TripOrder → List Fault → Type 0
AreLinkFaults file es known order faults =
    (others : Tables) → is_feed_table file ≡ true → StandFor known others → AreOrdersOf order (others StopTimes) → HaveGroupIds file es
    → faults ≡ flat_map (λ e. faults_at file e.row (links_of file others e.values)) es

-- faults that are those of a file's records under what the caller knows
of_file : {E : Type 0} (r : Result (List Fault) E) (P : List Fault → Type 0) (file own : InputFile) (es : List Entry) (known : LinkIds) (order : TripOrder) → file ≡ own
    → ((faults : List Fault) → P faults → AreLinkFaults own es known order faults) → IfOk r P → IfOk r (AreLinkFaults file es known order)
of_file r P file own es known order is by says =
    subst (λ f. IfOk r (AreLinkFaults f es known order)) (sym is) (IfOk-weaker r P (AreLinkFaults own es known order) by says)

-- as they are where they need no more than ids
pub by_ids : {E : Type 0} (r : Result (List Fault) E) (file own : InputFile) (es : List Entry) (known : LinkIds) (order : TripOrder) → file ≡ own
    → IfOk r (λ faults. (others : Tables) → StandFor known others → faults ≡ flat_map (λ e. faults_at own e.row (links_of own others e.values)) es)
    → IfOk r (AreLinkFaults file es known order)
by_ids r file own es known order is says =
    let P : List Fault → Type 0 = λ faults. (others : Tables) → StandFor known others → faults ≡ flat_map (λ e. faults_at own e.row (links_of own others e.values)) es in
    of_file r P file own es known order is (λ faults h others table stand orders given. h others stand) says

-- or the order of the trips
pub by_orders : {E : Type 0} (r : Result (List Fault) E) (file own : InputFile) (es : List Entry) (known : LinkIds) (order : TripOrder) → file ≡ own
    → IfOk r (λ faults. (others : Tables) → StandFor known others → AreOrdersOf order (others StopTimes)
    → faults ≡ flat_map (λ e. faults_at own e.row (links_of own others e.values)) es)
    → IfOk r (AreLinkFaults file es known order)
by_orders r file own es known order is says =
    let P : List Fault → Type 0 = λ faults. (others : Tables) → StandFor known others → AreOrdersOf order (others StopTimes)
    → faults ≡ flat_map (λ e. faults_at own e.row (links_of own others e.values)) es in
    of_file r P file own es known order is (λ faults h others table stand orders given. h others stand orders) says

-- or that each record has an id
pub by_group_ids : {E : Type 0} (r : Result (List Fault) E) (file own : InputFile) (es : List Entry) (known : LinkIds) (order : TripOrder) → file ≡ own
    → IfOk r (λ faults. (others : Tables) → StandFor known others → HaveGroupIds own es
    → faults ≡ flat_map (λ e. faults_at own e.row (links_of own others e.values)) es)
    → IfOk r (AreLinkFaults file es known order)
by_group_ids r file own es known order is says =
    let P : List Fault → Type 0 = λ faults. (others : Tables) → StandFor known others → HaveGroupIds own es
    → faults ≡ flat_map (λ e. faults_at own e.row (links_of own others e.values)) es in
    of_file r P file own es known order is (λ faults h others table stand orders given. h others stand given) says

-- ---- records of location_groups.txt have ids

all_given : (es : List Entry) → ((i : ℕ) (d : Entry) → i < length es → is_given ((get_or es i d).values "location_group_id") ≡ true)
    → list_all (λ e. is_given (e.values "location_group_id")) es ≡ true
all_given [] each = refl
all_given (e ∷ es) each =
    let here : is_given (e.values "location_group_id") ≡ true = each 0 e (omega arith) in
    ap (λ b. b && list_all (λ x. is_given (x.values "location_group_id")) es) here
    ∙ all_given es (λ i d low. each (suc i) d (omega (arith, low)))

kept_ids : (es : List Entry) → ObeysRules group_rules (map (λ e. e.values) es) → HaveGroupIds LocationGroups es
kept_ids es kept = all_given es (λ i d low.
    let dummy = d.values in
    let low' : i < length (map (λ e. e.values) es) = omega (arith, length-map es (λ e. e.values), low) in
    let here = kept.at i dummy low' 0 None (lit< tt) in
    let same = get_or-map (λ (e : Entry). e.values) es i d dummy low in
    sym (ap (λ v. is_given (v "location_group_id")) same) ∙ filled_is_given (get_or (map (λ e. e.values) es) i dummy "location_group_id")
    (is_kept code.EmptyField (is_empty (get_or (map (λ e. e.values) es) i dummy "location_group_id")) here))

accepted_ids : (columns : List String) (records : List (List (List ℕ))) → schema_faults LocationGroups groups_schema columns records ≡ [] → HaveGroupIds LocationGroups (entries_of records)
accepted_ids [] records none = kept_ids (entries_of records) (records_keep LocationGroups group_rules (entries_of records) none)
accepted_ids (column ∷ more) records none = cc

some_same : (t u : List (List (List ℕ))) → Some t ≡ Some u → t ≡ u
some_same t u e = cc

read_ids : (needed : Bool) (found : Found) (t : List (List (List ℕ))) → found_faults LocationGroups needed found ≡ [] → Some t ≡ table_of found → HaveGroupIds LocationGroups (entries_of t)
read_ids needed Absent t none e = cc
read_ids needed TooLarge t none e = cc
read_ids needed (Refused r) t none e = cc
read_ids needed (Read u) t none e = accepted_ids (missing_columns groups_schema (header_of u)) t (ap (schema_faults LocationGroups groups_schema (missing_columns groups_schema (header_of u))) (some_same t u e) ∙ none)

-- where there are no faults of the tables by themselves, each record of location_groups.txt has an id
pub group_ids : (raw : RawFeed) → level_one raw ≡ [] → (file : InputFile) (t : List (List (List ℕ))) → Some t ≡ table_of (found_of raw file) → HaveGroupIds file (entries_of t)
group_ids raw none LocationGroups t e = read_ids (needs raw LocationGroups) raw.location_groups t (no_own raw none LocationGroups refl) e
group_ids raw none Agency t e = tt
group_ids raw none Stops t e = tt
group_ids raw none Routes t e = tt
group_ids raw none Trips t e = tt
group_ids raw none StopTimes t e = tt
group_ids raw none Calendar t e = tt
group_ids raw none CalendarDates t e = tt
group_ids raw none Locations t e = tt
group_ids raw none LocationGroupStops t e = tt
group_ids raw none BookingRules t e = tt
group_ids raw none Transfers t e = tt
group_ids raw none Frequencies t e = tt
group_ids raw none ZoneText t e = tt
group_ids raw none ZoneTzif t e = tt
group_ids raw none Points t e = tt
group_ids raw none Direct t e = tt
group_ids raw none Walks t e = tt
group_ids raw none Queries t e = tt

-- ---- the faults between one table and the others

module _ (geo : Geo) (folder : Folder) where
  own_entries : (file : InputFile) → is_feed_table file ≡ true → feed_entries geo folder file ≡ entries folder file
  own_entries Agency e = refl
  own_entries Stops e = refl
  own_entries Routes e = refl
  own_entries Trips e = refl
  own_entries StopTimes e = refl
  own_entries Calendar e = refl
  own_entries CalendarDates e = refl
  own_entries LocationGroups e = refl
  own_entries LocationGroupStops e = refl
  own_entries BookingRules e = refl
  own_entries Transfers e = refl
  own_entries Frequencies e = refl
  own_entries file e = cc

  -- of a table that was read
  pub read_links : (raw : RawFeed) → ReadsFolder raw folder → (file : InputFile) → is_feed_table file ≡ true → (t : List (List (List ℕ))) → Some t ≡ table_in folder file
      → flat_map (λ e. faults_at file e.row (links_of file (tables geo folder) e.values)) (entries_of t) ≡ link_faults geo folder file
  read_links raw reads file e t is =
      let same : t ≡ table_records (bytes_of (folder file)) = table_bytes (folder file) t (is ∙ ap (λ b. if b then raw_table (folder file) else None) e) in
      ap (flat_map (λ e. faults_at file e.row (links_of file (tables geo folder) e.values))) (ap entries_of same ∙ sym (own_entries file e))

  -- of a table that wasn't
  pub unread_links : (raw : RawFeed) → ReadsFolder raw folder → level_one raw ≡ [] → (file : InputFile) → is_feed_table file ≡ true
      → (o : Option (Bor (List (List (List ℕ))))) → option_map (λ t. t.now) o ≡ table_of (found_of raw file) → o ≡ None → link_faults geo folder file ≡ []
  unread_links raw reads none file e o is unread =
      let empty : entries folder file ≡ [] = nil_from_map (λ e. e.values) (entries folder file) (linked raw folder reads none file e o is ∙ ap records_in unread) in
      ap (flat_map (λ e. faults_at file e.row (links_of file (tables geo folder) e.values))) (own_entries file e ∙ empty)
