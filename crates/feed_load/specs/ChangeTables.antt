-- The changes of a feed's tables record by record, and what reading them rests on.
use Rattle.std.specs.Prelude.{◌≡◌, ◌⊎◌, ℕ, true, false, ◌&&◌, if◌then◌else◌, List, All, AllPairs, filter, map, Option, Some, None}
use Rattle.flex_model.specs.declared.change.ChangeKind.{ChangeKind}
use Rattle.flex_model.specs.declared.change.ChangeKind.TheVariants.{Least, Forbidden}
use Rattle.flex_model.specs.declared.change.ChangeRow.{ChangeRow}
use Rattle.flex_model.specs.declared.fault.InputFile.TheVariants.{Stops, Transfers}
use Rattle.flex_model.specs.declared.place.Stop.{Stop}
use Rattle.flex_model.specs.SoundTimes.{AreIds}
use Rattle.feed_meaning.specs.FeedLinks.{Tables}
use Rattle.feed_meaning.specs.FeedRules.{is_passed_over}
use Rattle.feed_meaning.specs.FeedValue.{boards_at, change_before, change_of, index_in, is_change, stop_of}
use Rattle.feed_meaning.specs.Rules.{Values, is_bad, is_text}
use Rattle.field_text.specs.Grammars.{count, number, some_if}

-- the stops and their ids are those of the tables, and no id stands twice
pub record AreStopsOf (stops : List Stop) (ids : List (List ℕ)) (tables : Tables) : Type 0 where
  pub stops_are : stops ≡ map stop_of (tables Stops)
  pub ids_are : ids ≡ map (λ r. r "stop_id") (tables Stops)
  pub distinct : AreIds ids

-- at type 2 the seconds are a count of at most a day, or aren't given
abbrev pub HasSeconds : List ℕ → List ℕ → Type 0
HasSeconds kind seconds = (is_text kind "2" && is_bad (count 86400) seconds) ≡ false

-- so it is at a record that isn't passed over
abbrev pub HasSoundSeconds : Values → Type 0
HasSoundSeconds r =
    is_passed_over r ≡ false → HasSeconds (r "transfer_type") (r "min_transfer_time")

-- What an accepted folder makes sure of: seconds are counts, and of two changes one comes before
-- the other.
pub record AreSoundChanges (tables : Tables) : Type 0 where
  pub seconds : All HasSoundSeconds (tables Transfers)
  pub ordered : AllPairs (λ a b. (change_before a b ≡ true) ⊎ (change_before b a ≡ true))
      (map (change_of tables) (filter (is_change tables) (tables Transfers)))

-- whether one may change and how fast, by a type and seconds; other types say nothing of it
abbrev pub kind_by : List ℕ → List ℕ → Option ChangeKind
kind_by kind seconds =
    if is_text kind "2" then Some (Least (number seconds))
    else if is_text kind "3" then Some Forbidden
    else None

-- the number of a stop where one can board
abbrev pub boarding_stop_at : Tables → List ℕ → Option ℕ
boarding_stop_at tables text =
    some_if (boards_at tables text) (index_in tables Stops "stop_id" text)

-- the change of a record, where it gives one
abbrev pub given_change : Tables → Values → Option ChangeRow
given_change tables r = some_if (is_change tables r) (change_of tables r)
