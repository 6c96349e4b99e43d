-- The fault list of a query file, beside an accepted feed and accepted times. The file and its
-- rules are this project's own.
use Rattle.std.specs.Prelude.{ℕ, Bool, not, ◌&&◌, ◌||◌, List, [], ◌∷◌}
use Rattle.std.specs.List.{list_any}
use Rattle.std.specs.Str.{bytes_eq}
use Rattle.feed_tables.specs.Records.{table_records}
use Rattle.flex_model.specs.declared.fault.Fault.{Fault}
use Rattle.flex_model.specs.declared.fault.FaultCode.TheVariants.{EmptyField, BadEnum, BadMoment, BadNumber, BadStopKind, DuplicateKey, UnknownId}
use Rattle.flex_model.specs.declared.fault.InputFile.TheVariants.{Queries}
use Rattle.flex_model.specs.declared.fault.RawFile.{RawFile}
use Rattle.flex_model.specs.declared.feed.Feed.{Feed}
use Rattle.flex_model.specs.declared.times.Times.{Times}
use Rattle.feed_meaning.specs.FeedFaults.{table}
use Rattle.feed_meaning.specs.FeedRules.{is_positive_count}
use Rattle.feed_meaning.specs.Folder.{Contents, file_faults}
use Rattle.field_text.specs.Grammars.{choice, count, moment}
use Rattle.feed_meaning.specs.Rules.{Rule, Rules, first_of, is_bad, is_empty, is_no, repeats_id, rule}
use Rattle.feed_meaning.specs.Tables.{Schema, table_faults}
use Rattle.feed_meaning.specs.TimesFaults.{is_boarding_stop, is_stop}

-- the text is the id of a point
abbrev pub is_point : Times → List ℕ → Bool
is_point times text = list_any (λ point. bytes_eq text point.id) times.points

-- an origin or a destination has at most one fault
abbrev pub place_rule : Feed → Times → List ℕ → Rule
place_rule feed times text =
    first_of (rule EmptyField (is_empty text)
    ∷ rule UnknownId (not (is_stop feed text || is_point times text))
    ∷ rule BadStopKind (is_stop feed text && not (is_boarding_stop feed text))
    ∷ [])

abbrev pub query_rules : Feed → Times → Rules
query_rules feed times earlier r =
    rule EmptyField (is_empty (r "query_id"))
    ∷ rule DuplicateKey (repeats_id "query_id" earlier r)
    ∷ place_rule feed times (r "origin")
    ∷ place_rule feed times (r "destination")
    ∷ rule BadMoment (is_no (moment 1990 2199) (r "depart"))
    ∷ rule BadMoment (is_no (moment 1990 2199) (r "now"))
    ∷ rule BadNumber (is_no (count 7) (r "transfers"))
    ∷ rule BadNumber (not (is_positive_count 2880 (r "horizon")))
    ∷ rule BadEnum (is_bad (choice 0 1) (r "walking"))
    ∷ []

-- the column `walking` may be missing
abbrev pub queries_schema : Feed → Times → Schema
queries_schema feed times =
    table ("query_id" ∷ "origin" ∷ "destination" ∷ "depart" ∷ "now" ∷ "transfers" ∷ "horizon" ∷ [])
    (query_rules feed times)

abbrev pub query_contents : Feed → Times → Contents
query_contents feed times file bytes =
    table_faults Queries (queries_schema feed times) (table_records bytes)

-- the fault list of a query file
abbrev pub query_faults : Feed → Times → RawFile → List Fault
query_faults feed times raw = file_faults (query_contents feed times) (λ file. raw) Queries
