-- The columns of transfers.txt, and the records that are passed over by them.
use Rattle.std.specs.Prelude.{ℕ, Bool, ◌||◌, List}
use Rattle.feed_tables.specs.Refusals.{is_given}
use Rattle.feed_meaning.specs.Rules.{is_text}
use Rattle.feed_load.specs.Columns.{column_named, text_at}
use Rattle.feed_load.specs.declared.changes.ChangeColumns.{ChangeColumns}

abbrev pub change_columns : List (List ℕ) → ChangeColumns
change_columns header = record {
  kind = column_named header "transfer_type";
  from = column_named header "from_stop_id";
  to = column_named header "to_stop_id";
  seconds = column_named header "min_transfer_time";
  from_route = column_named header "from_route_id";
  to_route = column_named header "to_route_id";
  from_trip = column_named header "from_trip_id";
  to_trip = column_named header "to_trip_id";
}

-- an in-seat transfer, or one for a route or a trip, by its fields
abbrev pub is_passed_over_at : ChangeColumns → List (List ℕ) → Bool
is_passed_over_at columns fields =
    is_text (text_at fields columns.kind) "4" || is_text (text_at fields columns.kind) "5"
    || is_given (text_at fields columns.from_route) || is_given (text_at fields columns.to_route)
    || is_given (text_at fields columns.from_trip) || is_given (text_at fields columns.to_trip)
