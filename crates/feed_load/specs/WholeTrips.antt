-- The trips of the feed of a folder without locations.geojson, and how they come of the records of
-- the tables.
use Rattle.std.specs.Prelude.{◌≡◌, ◌⊎◌, ℕ, ◌==◌, true, false, not, ◌<◌, IsSome, List, All, AllPairs, Option, IsPermutation, filter, get_or, length, map}
use Rattle.std.specs.Borrow.{Bor}
use Rattle.std.specs.List.Sorted.{IsNonDecreasingBy}
use Rattle.std.specs.Str.{bytes_eq}
use Rattle.flex_model.specs.declared.fault.InputFile.TheVariants.{Trips, StopTimes, Frequencies}
use Rattle.flex_model.specs.declared.trip.Row.{Row}
use Rattle.flex_model.specs.declared.trip.Trip.{Trip}
use Rattle.field_text.specs.Grammars.{time}
use Rattle.feed_meaning.specs.FeedLinks.{Tables, is_before}
use Rattle.feed_meaning.specs.FeedRules.{sequence}
use Rattle.feed_meaning.specs.Rules.{Values, is_bad}
use Rattle.feed_rules.specs.Links.{records_in}
use Rattle.feed_load.specs.Drafts.{row_with}
use Rattle.feed_load.specs.LinearTimes.{AreFilled, row_at}
use Rattle.feed_load.specs.NamedIds.{AreIdsOf}
use Rattle.feed_load.specs.TableValues.{values_in}
use Rattle.feed_load.specs.declared.drafts.Draft.{Draft}
use Rattle.feed_load.specs.declared.named_ids.FeedIds.{FeedIds}
use Rattle.feed_load.specs.declared.linear_times.GivenRow.{GivenRow}
use Rattle.feed_load.specs.declared.open_trips.OpenTrip.{OpenTrip}

-- a record with a number, and times that are times where they are given
pub record IsTripRecord (r : Values) : Type 0 where
  pub numbered : IsSome (sequence (r "stop_sequence"))
  pub arrival : is_bad time (r "arrival_time") ≡ false
  pub departure : is_bad time (r "departure_time") ≡ false

-- What an accepted folder makes sure of: of two records of one trip one comes before the other.
pub record AreTripRecords (stop_times : List Values) : Type 0 where
  pub each : All IsTripRecord stop_times
  pub ordered : (trip : List ℕ)
      → AllPairs (λ a b. (is_before a b ≡ true) ⊎ (is_before b a ≡ true))
      (filter (λ s. bytes_eq trip (s "trip_id")) stop_times)

-- the tables' records are those of the files, and the ids stand for the records that trips name
pub record AreTripTables (of_trips of_stop_times : List (List (List ℕ)))
    (of_frequencies : Option (Bor (List (List (List ℕ)))))
    (ids : FeedIds) (tables : Tables) : Type 0 where
  pub trips : tables Trips ≡ values_in of_trips
  pub stop_times : tables StopTimes ≡ values_in of_stop_times
  pub frequencies : tables Frequencies ≡ records_in of_frequencies
  pub named : AreIdsOf ids tables

-- ---- a trip with its records in order

-- the rows of records with these times, one by one
pub record AreRowsWith
    (drafts : List Draft) (times : List GivenRow) (rows : List Row) : Type 0 where
  pub many : length rows ≡ length drafts
  pub each : (i : ℕ) (row : Row) (draft : Draft) → i < length drafts
      → get_or rows i row ≡ row_with (get_or drafts i draft) (row_at times i)

-- the rows of records whose times are filled
pub record AreRowsOf (drafts : List Draft) (rows : List Row) : Type 0 where
  pub times : List GivenRow
  pub filled : AreFilled (map (λ draft. draft.given) drafts) times
  pub are : AreRowsWith drafts times rows

-- the trip with its records of stop_times.txt by their numbers, and its repeats as they stand
pub record IsWhole (open_trip : OpenTrip) (trip : Trip) : Type 0 where
  pub id : trip.id ≡ open_trip.id
  pub service : trip.service ≡ open_trip.service
  pub frequent : trip.frequent ≡ not (length open_trip.repeats == 0)
  pub repeats : trip.repeats ≡ open_trip.repeats
  pub sorted : List Draft
  pub moved : IsPermutation open_trip.drafts sorted
  pub rising : IsNonDecreasingBy (λ draft. draft.sequence) sorted
  pub rows : AreRowsOf sorted trip.rows
