-- The queries of the demo feed, this project's own, each from a point to a stop that the feed's
-- number draws.
use Rattle.std.specs.Prelude.{ℕ, ◌+◌, ◌%◌, List, [], ◌∷◌, ◌++◌, codes, decimal, map}
use Rattle.feed_gen.specs.Draws.{pick}
use Rattle.feed_gen.specs.Ids.{point_id, query_id, stop_id}
use Rattle.feed_gen.specs.Texts.{below, table_text}
use Prim.Native.String.{String}

-- so many hours after 07:00:00 of the day of travel
unfoldable pub depart_text : ℕ → List ℕ
depart_text later = codes "2025-06-04T0" ++ decimal (7 + later) ++ codes ":00:00Z"

-- noon of the day before
unfoldable pub now_text : List ℕ
now_text = codes "2025-06-03T12:00:00Z"

-- a query from its origin to its destination, so many hours later and with as many changes
abbrev pub asked_record : List ℕ → List ℕ → List ℕ → ℕ → List (List ℕ)
asked_record query origin destination later =
    query ∷ origin ∷ destination ∷ depart_text later ∷ now_text ∷ decimal later ∷ codes "120" ∷ []

abbrev pub query_record : ℕ → ℕ → List (List ℕ)
query_record number i =
    asked_record (query_id i) (point_id (pick number (900 + i) 10))
    (stop_id (pick number (920 + i) 40)) (i % 3)

unfoldable pub query_records : ℕ → List (List (List ℕ))
query_records number = map (query_record number) (below 6)

abbrev pub query_columns : List String
query_columns =
    "query_id" ∷ "origin" ∷ "destination" ∷ "depart" ∷ "now" ∷ "transfers" ∷ "horizon" ∷ []

unfoldable pub queries_text : ℕ → List ℕ
queries_text number = table_text query_columns (query_records number)
