-- The columns of frequencies.txt, and the repeat of a trip by a record of it.
use Rattle.std.specs.Prelude.{◌≡◌, ℕ, false, List}
use Rattle.flex_model.specs.declared.trip.Repeat.{Repeat}
use Rattle.field_text.specs.Grammars.{count}
use Rattle.feed_meaning.specs.FeedValue.{seconds}
use Rattle.feed_meaning.specs.Rules.{Values, is_bad}
use Rattle.feed_load.specs.Columns.{column_named, number_within, text_at}
use Rattle.feed_load.specs.declared.repeats.RepeatColumns.{RepeatColumns}

-- What an accepted folder makes sure of: the headway is empty or a count that fits 32 bits.
abbrev pub HasHeadway : Values → Type 0
HasHeadway r = is_bad (count 4294967295) (r "headway_secs") ≡ false

-- a repeat by the texts of its record
abbrev pub repeat_by : List ℕ → List ℕ → List ℕ → Repeat
repeat_by start end headway =
    record { first = seconds start; end = seconds end; headway = number_within headway }

abbrev pub read_repeat : Values → Repeat
read_repeat r = repeat_by (r "start_time") (r "end_time") (r "headway_secs")

abbrev pub repeat_columns : List (List ℕ) → RepeatColumns
repeat_columns header = record {
  start = column_named header "start_time";
  end = column_named header "end_time";
  headway = column_named header "headway_secs";
}

-- a repeat by a record's fields
abbrev pub repeat_at : RepeatColumns → List (List ℕ) → Repeat
repeat_at columns fields =
    repeat_by (text_at fields columns.start) (text_at fields columns.end)
    (text_at fields columns.headway)
