-- The tables of both calendars, and how a service grows by a record of theirs.
use Rattle.std.specs.Prelude.{ℕ, ℤ, Bool, if◌then◌else◌, List, [], ◌∷◌, ◌++◌, Option, IsTrue, All}
use Rattle.std.specs.Borrow.{Bor}
use Rattle.feed_tables.specs.Refusals.{is_given}
use Rattle.flex_model.specs.declared.fault.InputFile.TheVariants.{Calendar, CalendarDates}
use Rattle.flex_model.specs.declared.service.Service.{Service}
use Rattle.feed_meaning.specs.FeedLinks.{Tables}
use Rattle.feed_meaning.specs.FeedValue.{day, week}
use Rattle.feed_meaning.specs.Rules.{Values, is_text}
use Rattle.feed_rules.specs.Links.{records_in}
use Rattle.feed_load.specs.Columns.{column_named, text_at}
use Rattle.feed_load.specs.declared.weeks.WeekColumns.{WeekColumns}

-- the tables with these records of calendar.txt and of calendar_dates.txt, where each other file
-- has no record
abbrev pub calendars : List Values → List Values → Tables
calendars weeks dates Calendar = weeks
calendars weeks dates CalendarDates = dates
calendars weeks dates file = []

-- each record of a table names a service
abbrev pub NameServices : Option (Bor (List (List (List ℕ)))) → Type 0
NameServices table = All (λ r. IsTrue (is_given (r "service_id"))) (records_in table)

-- a service with the week and the days of a record
abbrev pub with_week : Values → Service → Service
with_week r service =
    record service { flags = week r; first = day (r "start_date"); last = day (r "end_date") }

abbrev pub week_columns : List (List ℕ) → WeekColumns
week_columns header = record {
  monday = column_named header "monday";
  tuesday = column_named header "tuesday";
  wednesday = column_named header "wednesday";
  thursday = column_named header "thursday";
  friday = column_named header "friday";
  saturday = column_named header "saturday";
  sunday = column_named header "sunday";
  start = column_named header "start_date";
  end = column_named header "end_date";
}

abbrev pub runs_at : List (List ℕ) → Option ℕ → Bool
runs_at fields column = is_text (text_at fields column) "1"

-- the flags of a week by a record's fields
abbrev pub week_at : WeekColumns → List (List ℕ) → List Bool
week_at columns fields =
    runs_at fields columns.monday ∷ runs_at fields columns.tuesday
    ∷ runs_at fields columns.wednesday ∷ runs_at fields columns.thursday
    ∷ runs_at fields columns.friday ∷ runs_at fields columns.saturday
    ∷ runs_at fields columns.sunday ∷ []

-- a service with the week and the days of a record, by its fields
abbrev pub with_week_at : WeekColumns → List (List ℕ) → Service → Service
with_week_at columns fields service =
    record service {
      flags = week_at columns fields;
      first = day (text_at fields columns.start);
      last = day (text_at fields columns.end);
    }

-- a service with one more exception: a day that is added at type 1, and removed at type 2
abbrev pub with_exception : List ℕ → ℤ → Service → Service
with_exception kind day service =
    if is_text kind "1" then record service { added = service.added ++ day ∷ [] }
    else if is_text kind "2" then record service { removed = service.removed ++ day ∷ [] }
    else service
