-- The files that no number draws, but for the driving times, have no fault by themselves: it is computed.
use Rattle.std.proofs.Common.{◌≡◌, false, [], refl}
use Rattle.std.specs.Fmt.{digits}
use Rattle.flex_model.specs.declared.fault.InputFile.TheVariants.{Agency, BookingRules, Calendar, Points, Routes, Stops, Transfers, Trips, Walks}
use Rattle.feed_tables.specs.Records.{table_records}
use Rattle.feed_meaning.specs.FeedFaults.{agency_schema, booking_rules_schema, calendar_schema, routes_schema, stops_schema, transfers_schema, trips_schema}
use Rattle.feed_meaning.specs.Folder.{has_no_record}
use Rattle.feed_meaning.specs.Tables.{table_faults}
use Rattle.feed_meaning.specs.TimesFaults.{points_schema, walks_schema}
use Rattle.feed_meaning.proofs.OnLiterals.{feed_on_literals}
use Rattle.feed_gen.specs.FeedTexts.{agency_text, booking_rules_text, calendar_text, route_records, routes_text, stop_records, stops_text, transfer_records, transfers_text, trip_records, trips_text}
use Rattle.feed_gen.specs.Texts.{below, lines, table_text}
use Rattle.feed_gen.specs.TimesTexts.{point_records, points_text, walk_records, walks_text}

unfoldable pub demo_on_literals : Unit {0}
unfolding feed_on_literals digits below lines table_text agency_text booking_rules_text calendar_text route_records routes_text stop_records stops_text transfer_records transfers_text trip_records trips_text point_records points_text walk_records walks_text
demo_on_literals = tt

pub agency-alone : table_faults Agency agency_schema (table_records agency_text) ≡ []
unfolding demo_on_literals
agency-alone = refl

pub stops-alone : table_faults Stops stops_schema (table_records stops_text) ≡ []
unfolding demo_on_literals
stops-alone = refl

pub stops-there : has_no_record (table_records stops_text) ≡ false
unfolding demo_on_literals
stops-there = refl

pub routes-alone : table_faults Routes routes_schema (table_records routes_text) ≡ []
unfolding demo_on_literals
routes-alone = refl

pub trips-alone : table_faults Trips trips_schema (table_records trips_text) ≡ []
unfolding demo_on_literals
trips-alone = refl

pub calendar-alone : table_faults Calendar calendar_schema (table_records calendar_text) ≡ []
unfolding demo_on_literals
calendar-alone = refl

pub calendar-there : has_no_record (table_records calendar_text) ≡ false
unfolding demo_on_literals
calendar-there = refl

pub booking_rules-alone : table_faults BookingRules booking_rules_schema (table_records booking_rules_text) ≡ []
unfolding demo_on_literals
booking_rules-alone = refl

pub booking_rules-there : has_no_record (table_records booking_rules_text) ≡ false
unfolding demo_on_literals
booking_rules-there = refl

pub transfers-alone : table_faults Transfers transfers_schema (table_records transfers_text) ≡ []
unfolding demo_on_literals
transfers-alone = refl

pub transfers-there : has_no_record (table_records transfers_text) ≡ false
unfolding demo_on_literals
transfers-there = refl

pub points-alone : table_faults Points points_schema (table_records points_text) ≡ []
unfolding demo_on_literals
points-alone = refl

pub points-there : has_no_record (table_records points_text) ≡ false
unfolding demo_on_literals
points-there = refl

pub walks-alone : table_faults Walks walks_schema (table_records walks_text) ≡ []
unfolding demo_on_literals
walks-alone = refl

pub walks-there : has_no_record (table_records walks_text) ≡ false
unfolding demo_on_literals
walks-there = refl
