-- The records of the demo feed's files.
use Rattle.std.proofs.Common.{ℕ, List, [], ◌∷◌, ◌++◌, map, refl}
use Rattle.std.specs.Prelude.{codes}
use Rattle.flex_model.specs.declared.fault.InputFile.TheVariants.{Agency, BookingRules, Calendar, Locations, Routes, StopTimes, Stops, Transfers, Trips}
use Rattle.feed_meaning.specs.FeedLinks.{Tables, booking_rule_links, location_links, transfer_links, trip_links}
use Rattle.feed_meaning.specs.Rules.{Values}
use Rattle.feed_meaning.specs.Tables.{entries_of}
use Rattle.feed_tables.specs.Records.{table_records}
use Rattle.feed_gen.specs.FeedTexts.{agency_text, booking_rules_text, calendar_text, routes_text, stops_text, transfers_text, trips_text}
use Rattle.feed_gen.specs.StopTimesText.{zone_stop_times}
use Rattle.feed_gen.specs.Texts.{below}
use Rattle.feed_gen.proofs.LinkedTables.{AreLinked, linked-tested}
use Rattle.feed_gen.proofs.SmallTables.{demo_on_literals}
use Rattle.feed_gen.proofs.StopTimeTable.{fixed_at, stop_time}

-- the values of a text's records
unfoldable pub values_in : List ℕ → List Values
values_in text = map (λ e. e.values) (entries_of (table_records text))

-- both zones by their ids
abbrev pub zone_values : List Values
zone_values = (λ column. codes "zA") ∷ (λ column. codes "zB") ∷ []

abbrev pub demo_tables : ℕ → Tables
demo_tables number Agency = values_in agency_text
demo_tables number Stops = values_in stops_text
demo_tables number Routes = values_in routes_text
demo_tables number Trips = values_in trips_text
demo_tables number StopTimes = map (λ i. stop_time (fixed_at number i)) (below 1920) ++ map stop_time zone_stop_times
demo_tables number Calendar = values_in calendar_text
demo_tables number Locations = zone_values
demo_tables number BookingRules = values_in booking_rules_text
demo_tables number Transfers = values_in transfers_text
demo_tables number file = []

pub trips-linked : (number : ℕ) → AreLinked (trip_links (demo_tables number)) (values_in trips_text)
unfolding demo_on_literals values_in
trips-linked number = linked-tested (trip_links (demo_tables number)) (values_in trips_text) refl

pub locations-linked : (number : ℕ) → AreLinked (location_links (demo_tables number)) zone_values
unfolding demo_on_literals values_in
locations-linked number = linked-tested (location_links (demo_tables number)) zone_values refl

pub booking_rules-linked : (number : ℕ) → AreLinked (booking_rule_links (demo_tables number)) (values_in booking_rules_text)
unfolding demo_on_literals values_in
booking_rules-linked number = linked-tested (booking_rule_links (demo_tables number)) (values_in booking_rules_text) refl

pub transfers-linked : (number : ℕ) → AreLinked (transfer_links (demo_tables number)) (values_in transfers_text)
unfolding demo_on_literals values_in
transfers-linked number = linked-tested (transfer_links (demo_tables number)) (values_in transfers_text) refl
