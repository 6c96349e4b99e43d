-- The times beside the demo feed, this project's own: ten points, each near every fourth stop, how
-- long one drives between stops and from points to stops, and how long one walks from each point to
-- its stop.
use Rattle.std.specs.Prelude.{ℕ, ◌+◌, ◌*◌, ◌/◌, ◌%◌, ◌==◌, not, List, [], ◌∷◌, ◌++◌, codes, decimal, filter, map}
use Rattle.std.specs.Int.{abs_diff}
use Rattle.std.specs.List.{flat_map}
use Rattle.feed_gen.specs.Ids.{point_id, stop_id}
use Rattle.feed_gen.specs.Texts.{below, table_text}
use Prim.Native.String.{String}

unfoldable pub zone_text : List ℕ
zone_text = codes "UTC0\n"

-- the point i, near the stop 4 * i
abbrev pub point_record : ℕ → List (List ℕ)
point_record i =
    point_id i ∷ (codes "50.0" ++ decimal (4 * i / 8) ++ codes "3")
    ∷ (codes "5.0" ++ decimal (4 * i % 8) ++ codes "3")
    ∷ []

unfoldable pub point_records : List (List (List ℕ))
point_records = map point_record (below 10)

unfoldable pub points_text : List ℕ
points_text = table_text ("point_id" ∷ "point_lat" ∷ "point_lon" ∷ []) point_records

abbrev pub span_record : List ℕ → List ℕ → ℕ → List (List ℕ)
span_record from to seconds = from ∷ to ∷ decimal seconds ∷ []

-- how many rows and places within a row two stops lie apart
abbrev pub far : ℕ → ℕ → ℕ
far a b = abs_diff (a / 8) (b / 8) + abs_diff (a % 8) (b % 8)

abbrev pub between_stops : ℕ → ℕ → List (List ℕ)
between_stops a b = span_record (stop_id a) (stop_id b) (120 + 120 * far a b)

abbrev pub from_point : ℕ → ℕ → List (List ℕ)
from_point i b = span_record (point_id i) (stop_id b) (180 + 120 * far (4 * i) b)

-- from each stop to each other one
unfoldable pub stop_drives : List (List (List ℕ))
stop_drives =
    flat_map (λ a. map (λ b. between_stops a b) (filter (λ b. not (a == b)) (below 40))) (below 40)

-- from each point to each stop
unfoldable pub point_drives : List (List (List ℕ))
point_drives = flat_map (λ i. map (λ b. from_point i b) (below 40)) (below 10)

abbrev pub direct_records : List (List (List ℕ))
direct_records = stop_drives ++ point_drives

abbrev pub span_columns : List String
span_columns = "from_id" ∷ "to_id" ∷ "seconds" ∷ []

unfoldable pub direct_text : List ℕ
direct_text = table_text span_columns direct_records

abbrev pub walk_record : ℕ → List (List ℕ)
walk_record i = span_record (point_id i) (stop_id (4 * i)) 240

unfoldable pub walk_records : List (List (List ℕ))
walk_records = map walk_record (below 10)

unfoldable pub walks_text : List ℕ
walks_text = table_text span_columns walk_records
