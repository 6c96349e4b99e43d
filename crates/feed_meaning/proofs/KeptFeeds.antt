-- Where the fault list of a feed is empty, each record of each file keeps the rules of both levels.
use Rattle.std.proofs.Common.{◌≡◌, ◌≤◌, List, [], ◌∷◌, All, length, refl, sym, subst, arith, lit<}
use Rattle.std.proofs.lemmas.List.{length-map}
use Rattle.flex_model.specs.declared.fault.Fault.{Fault}
use Rattle.flex_model.specs.declared.fault.InputFile.{InputFile}
use Rattle.flex_model.specs.declared.fault.InputFile.TheVariants.{Stops, Trips, StopTimes, Calendar, CalendarDates, LocationGroups, BookingRules, Transfers, Frequencies}
use Rattle.flex_model.specs.declared.limits.TheConstants.{MOST_RECORDS}
use Rattle.feed_meaning.specs.FeedFaults.{Geo, booking_rules_schema, calendar_dates_schema, calendar_schema, feed_contents, feed_entries, feed_faults, feed_files, feed_level_one, feed_level_two, first_list, frequencies_schema, groups_schema, link_faults, links_of, stop_times_schema, stops_schema, tables, transfers_schema, trips_schema}
use Rattle.feed_meaning.specs.FeedLinks.{Tables}
use Rattle.feed_meaning.specs.Folder.{Folder, entries, file_faults}
use Rattle.feed_meaning.specs.Rules.{Rules}
use Rattle.feed_meaning.specs.Tables.{Schema}
use Rattle.feed_meaning.proofs.Kept.{AreKept, IsKeptTable, ObeysRules, file_keeps, links_kept, parts_are_nil}

-- the records of a file keep its rules by themselves and beside the other files, and there are few
pub record KeepsRules (rules : Rules) (tables : Tables) (file : InputFile) : Type 0 where
  pub alone : ObeysRules rules (tables file)
  pub few : length (tables file) ≤ MOST_RECORDS
  pub linked : All (λ r. AreKept (links_of file tables r)) (tables file)

pub record KeepsFeedRules (tables : Tables) : Type 0 where
  pub stops : KeepsRules stops_schema.rules tables Stops
  pub trips : KeepsRules trips_schema.rules tables Trips
  pub stop_times : KeepsRules stop_times_schema.rules tables StopTimes
  pub calendar : KeepsRules calendar_schema.rules tables Calendar
  pub calendar_dates : KeepsRules calendar_dates_schema.rules tables CalendarDates
  pub groups : KeepsRules groups_schema.rules tables LocationGroups
  pub booking_rules : KeepsRules booking_rules_schema.rules tables BookingRules
  pub transfers : KeepsRules transfers_schema.rules tables Transfers
  pub frequencies : KeepsRules frequencies_schema.rules tables Frequencies

-- both lists are empty where the first of them that isn't empty is
pub lists_are_empty : (first second : List Fault) → first_list first second ≡ [] → (first ≡ []) × (second ≡ [])
lists_are_empty [] second e = (refl, e)
lists_are_empty (f ∷ more) second e = cc

module _ (geo : Geo) (folder : Folder) where
  -- a file without faults of either level
  keeps : (file : InputFile) (schema : Schema) → feed_entries geo folder file ≡ entries folder file → IsKeptTable schema (entries folder file)
      → link_faults geo folder file ≡ [] → KeepsRules schema.rules (tables geo folder) file
  keeps file schema same kept none =
      let es = feed_entries geo folder file in
      let kept' = subst (λ xs. IsKeptTable schema xs) (sym same) kept in
      record {
        alone = kept'.rules;
        few = omega (arith, kept'.few, length-map es (λ e. e.values));
        linked = links_kept file (links_of file (tables geo folder)) es none;
      }

  pub feed_keeps : feed_faults geo folder ≡ [] → KeepsFeedRules (tables geo folder)
  feed_keeps none =
      let lists = lists_are_empty (feed_level_one geo folder) (feed_level_two geo folder) none in
      let one = parts_are_nil (file_faults (feed_contents geo) folder) feed_files lists.0 in
      let two = parts_are_nil (link_faults geo folder) feed_files lists.1 in
      let contents = feed_contents geo in
      record {
        stops = keeps Stops stops_schema refl (file_keeps contents folder Stops stops_schema (λ bytes. refl) (one 1 Stops (lit< tt))) (two 1 Stops (lit< tt));
        trips = keeps Trips trips_schema refl (file_keeps contents folder Trips trips_schema (λ bytes. refl) (one 3 Trips (lit< tt))) (two 3 Trips (lit< tt));
        stop_times = keeps StopTimes stop_times_schema refl (file_keeps contents folder StopTimes stop_times_schema (λ bytes. refl) (one 4 Trips (lit< tt))) (two 4 Trips (lit< tt));
        calendar = keeps Calendar calendar_schema refl (file_keeps contents folder Calendar calendar_schema (λ bytes. refl) (one 5 Trips (lit< tt))) (two 5 Trips (lit< tt));
        calendar_dates = keeps CalendarDates calendar_dates_schema refl (file_keeps contents folder CalendarDates calendar_dates_schema (λ bytes. refl) (one 6 Trips (lit< tt))) (two 6 Trips (lit< tt));
        groups = keeps LocationGroups groups_schema refl (file_keeps contents folder LocationGroups groups_schema (λ bytes. refl) (one 8 Trips (lit< tt))) (two 8 Trips (lit< tt));
        booking_rules = keeps BookingRules booking_rules_schema refl (file_keeps contents folder BookingRules booking_rules_schema (λ bytes. refl) (one 10 Trips (lit< tt))) (two 10 Trips (lit< tt));
        transfers = keeps Transfers transfers_schema refl (file_keeps contents folder Transfers transfers_schema (λ bytes. refl) (one 11 Trips (lit< tt))) (two 11 Trips (lit< tt));
        frequencies = keeps Frequencies frequencies_schema refl (file_keeps contents folder Frequencies frequencies_schema (λ bytes. refl) (one 12 Trips (lit< tt))) (two 12 Trips (lit< tt));
      }
