-- The records of trips of tables that keep the rules, as a caller needs them.
use Rattle.std.proofs.Common.{ap}
use Rattle.std.specs.Prelude.{is_some}
use Rattle.flex_model.specs.declared.fault.InputFile.TheVariants.{StopTimes}
use Rattle.feed_meaning.specs.FeedLinks.{Tables}
use Rattle.feed_meaning.proofs.KeptFeeds.{KeepsFeedRules}
use Rattle.feed_meaning.proofs.TripOrder.{has_number, records_ordered}
use Rattle.feed_meaning.proofs.TripRows.{kept_record}
use Rattle.feed_load.specs.WholeTrips.{AreTripRecords}

pub trip_records : (tables : Tables) → KeepsFeedRules tables → AreTripRecords (tables StopTimes)
trip_records tables kept = record {
  each = λ i d low.
      let r = kept_record tables kept i d low in
      record { numbered = ap is_some (has_number (tables StopTimes) kept.stop_times.alone i d low).is; arrival = r.arrive; departure = r.depart };
  ordered = λ trip. records_ordered (tables StopTimes) kept.stop_times.alone trip;
}
