-- The tables and the feed of an accepted folder.
use Rattle.std.proofs.Common.{◌≡◌, List, [], None, get_or, map, refl, sym, ◌∙◌, ap, subst, lit<}
use Rattle.std.proofs.lemmas.Simd.{map-map}
use Rattle.flex_model.specs.declared.fault.FaultCode.TheVariants as code
use Rattle.flex_model.specs.declared.fault.InputFile.{InputFile}
use Rattle.flex_model.specs.declared.fault.InputFile.TheVariants.{Agency, Stops, Routes, Trips, StopTimes, Calendar, CalendarDates, Locations, LocationGroups, LocationGroupStops, BookingRules, Transfers, Frequencies, ZoneText, ZoneTzif, Points, Direct, Walks, Queries}
use Rattle.flex_model.specs.SoundFeed.{IsSoundFeed}
use Rattle.flex_model.specs.SoundTimes.{AreIds}
use Rattle.flex_model.specs.declared.place.Stop.{Stop}
use Rattle.flex_model.specs.declared.place.Zone.{Zone}
use Rattle.feed_meaning.specs.FeedFaults.{Feature, Geo, feature_entry, feed_faults, features, tables}
use Rattle.feed_meaning.specs.FeedLinks.{Tables}
use Rattle.feed_meaning.specs.FeedValue.{feed_of, feed_of_tables, stop_of, zone_of}
use Rattle.feed_meaning.specs.Folder.{Folder}
use Rattle.feed_meaning.specs.Rules.{Values, is_empty}
use Rattle.feed_meaning.specs.Tables.{Entry}
use Rattle.feed_meaning.proofs.Kept.{is_kept}
use Rattle.feed_meaning.proofs.KeptFeeds.{KeepsFeedRules, feed_keeps}
use Rattle.feed_meaning.proofs.NamedLists.{filled_is_given, kept_ids}
use Rattle.feed_meaning.proofs.SoundLists as Ids
use Rattle.feed_load.specs.FeedTables.{AreAcceptedTables, tables_of, zone_features}
use Rattle.feed_load.specs.Judged.{HaveRecords}
use Rattle.feed_load.specs.declared.tables.FeedTables.{FeedTables}
use Rattle.feed_load.proofs.BookingRecords.{counts_kept}
use Rattle.feed_load.proofs.KeptChanges.{sound_changes}
use Rattle.feed_load.proofs.KeptTripRecords.{trip_records}
use Rattle.feed_load.proofs.RepeatRecords.{headways_kept}

-- the tables that a feed is made of
fed : Tables → Tables
fed t Stops = t Stops
fed t Trips = t Trips
fed t StopTimes = t StopTimes
fed t Calendar = t Calendar
fed t CalendarDates = t CalendarDates
fed t Locations = t Locations
fed t LocationGroups = t LocationGroups
fed t LocationGroupStops = t LocationGroupStops
fed t BookingRules = t BookingRules
fed t Transfers = t Transfers
fed t Frequencies = t Frequencies
fed t file = []

feed-fed : (t : Tables) (zones : List Feature) → feed_of_tables t zones ≡ feed_of_tables (fed t) zones
unfolding fed
feed-fed t zones = refl

-- tables that keep the rules of a feed are accepted
kept-accepted : (t : Tables) → AreIds (map (λ r. r "id") (t Locations)) → KeepsFeedRules t → AreAcceptedTables (fed t)
unfolding fed
kept-accepted t zones kept =
    let changes = sound_changes t kept in
    record {
      stop_ids = kept_ids "stop_id" (t Stops) (Ids.stop_ids (t Stops) kept.stops.alone);
      zone_ids = zones;
      group_ids = kept_ids "location_group_id" (t LocationGroups) (Ids.group_ids (t LocationGroups) kept.groups.alone);
      booking_rule_ids = kept_ids "booking_rule_id" (t BookingRules) (Ids.booking_rule_ids (t BookingRules) kept.booking_rules.alone);
      trip_ids = kept_ids "trip_id" (t Trips) (Ids.trip_ids (t Trips) kept.trips.alone);
      calendar = λ i d low. filled_is_given (get_or (t Calendar) i d "service_id") (is_kept code.EmptyField (is_empty (get_or (t Calendar) i d "service_id")) (kept.calendar.alone.at i d low 0 None (lit< tt)));
      dates = λ i d low. filled_is_given (get_or (t CalendarDates) i d "service_id") (is_kept code.EmptyField (is_empty (get_or (t CalendarDates) i d "service_id")) (kept.calendar_dates.alone.at i d low 0 None (lit< tt)));
      counts = counts_kept (t BookingRules) kept.booking_rules.alone;
      records = trip_records t kept;
      headways = headways_kept t kept;
      changes = record { seconds = changes.seconds; ordered = changes.ordered };
    }

-- the ids of features
zone_ids : (stops : List Stop) (features : List Feature) → AreIds (map (λ z. z.id) (map (zone_of stops) features)) → AreIds (map (λ r. r "id") (map (λ e. e.values) (map feature_entry features)))
zone_ids stops features ids =
    subst AreIds
    (map-map (λ (z : Zone). z.id) (zone_of stops) features
    ∙ sym (map-map (λ (r : Values). r "id") (λ (e : Entry). e.values) (map feature_entry features) ∙ map-map (λ (e : Entry). e.values "id") feature_entry features))
    ids

module _ (geo : Geo) (folder : Folder) (t : FeedTables) (have : HaveRecords t (tables geo folder) (features geo folder)) where
  tables-same : (file : InputFile) → fed (tables geo folder) file ≡ tables_of t file
  unfolding fed
  tables-same Agency = refl
  tables-same Stops = have.stops
  tables-same Routes = refl
  tables-same Trips = have.trips
  tables-same StopTimes = have.stop_times
  tables-same Calendar = have.calendar
  tables-same CalendarDates = have.dates
  tables-same Locations = have.zones
  tables-same LocationGroups = have.groups
  tables-same LocationGroupStops = have.group_stops
  tables-same BookingRules = have.booking_rules
  tables-same Transfers = have.transfers
  tables-same Frequencies = have.frequencies
  tables-same ZoneText = refl
  tables-same ZoneTzif = refl
  tables-same Points = refl
  tables-same Direct = refl
  tables-same Walks = refl
  tables-same Queries = refl

  all-same : fed (tables geo folder) ≡ tables_of t
  all-same = λ k file. tables-same file k

  pub tables_accepted : IsSoundFeed (feed_of geo folder) → feed_faults geo folder ≡ [] → AreAcceptedTables (tables_of t)
  tables_accepted sound none =
      subst AreAcceptedTables all-same (kept-accepted (tables geo folder) (zone_ids (map stop_of (tables geo folder Stops)) (features geo folder) sound.zones.ids) (feed_keeps geo folder none))

  -- the feed of the tables and zones is that of the folder
  pub feed_is : feed_of_tables (tables_of t) (zone_features t.zones) ≡ feed_of geo folder
  feed_is =
      ap (λ x. feed_of_tables x (zone_features t.zones)) (sym all-same) ∙ sym (feed-fed (tables geo folder) (zone_features t.zones))
      ∙ ap (feed_of_tables (tables geo folder)) (sym have.features)
