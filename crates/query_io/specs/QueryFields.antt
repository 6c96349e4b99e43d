-- The values of a query's record.
use Rattle.std.specs.Prelude.{◌≡◌, ℕ, ℤ, Bool, not, List, Option, None, Some, codes, position}
use Rattle.std.specs.Result.{result_ok}
use Rattle.std.specs.Str.{bytes_eq}
use Rattle.flex_model.specs.declared.feed.Feed.{Feed}
use Rattle.flex_model.specs.declared.place.Place.{Place}
use Rattle.flex_model.specs.declared.query.Query.{Query}
use Rattle.flex_model.specs.declared.times.Times.{Times}
use Rattle.field_text.specs.Grammars.{choice, count, moment, some_if}
use Rattle.feed_meaning.specs.Rules.{Values, is_bad, is_text}
use Rattle.query_io.specs.QueryPlaces.{IsPlaceRead}
use Rattle.query_io.specs.declared.query_fields.QueryColumns.{QueryColumns}
use Rattle.query_io.specs.declared.query_fields.QueryFields.{QueryFields}
use Prim.Native.String.{String}

abbrev pub column_named : List (List ℕ) → String → Option ℕ
column_named header name = position (bytes_eq (codes name)) header

abbrev pub query_columns : List (List ℕ) → QueryColumns
query_columns header = record {
  id = column_named header "query_id";
  origin = column_named header "origin";
  destination = column_named header "destination";
  depart = column_named header "depart";
  asked = column_named header "now";
  transfers = column_named header "transfers";
  horizon = column_named header "horizon";
  walking = column_named header "walking";
}

-- whether a text asks for walking: 1 does, 0 and an empty one don't, and any other is no answer
abbrev pub walking_asked : List ℕ → Option Bool
walking_asked text = some_if (not (is_bad (choice 0 1) text)) (is_text text "1")

-- the values are those of a record
pub record HasFields (feed : Feed) (times : Times) (r : Values) (fields : QueryFields)
    : Type 0 where
  pub id : fields.id.now ≡ r "query_id"
  pub origin : IsPlaceRead feed times (r "origin") fields.origin
  pub destination : IsPlaceRead feed times (r "destination") fields.destination
  pub depart : fields.depart ≡ moment 1990 2199 (r "depart")
  pub asked : fields.asked ≡ moment 1990 2199 (r "now")
  pub transfers : fields.transfers ≡ count 7 (r "transfers")
  pub horizon : fields.horizon ≡ count 2880 (r "horizon")
  pub walking : fields.walking ≡ walking_asked (r "walking")

-- the query of these values, if all are there
abbrev pub query_by : List ℕ → Option Place → Option Place → Option ℤ → Option ℤ → Option ℕ
    → Option ℕ → Option Bool → Option Query
query_by id (Some origin) (Some destination) (Some depart) (Some asked) (Some transfers)
    (Some horizon) (Some walking) =
    Some (record {
      id = id;
      origin = origin;
      destination = destination;
      depart = depart;
      now = asked;
      transfers = transfers;
      horizon = horizon;
      walking = walking;
    })
query_by id origin destination depart asked transfers horizon walking = None

-- the query of a record's values
abbrev pub query_from : QueryFields → Option Query
query_from fields =
    query_by fields.id.now (result_ok fields.origin) (result_ok fields.destination) fields.depart
    fields.asked fields.transfers fields.horizon fields.walking
