-- The ids of the demo feed, by numbers from 0.
use Rattle.std.specs.Prelude.{ℕ, List, ◌++◌, codes, decimal}

abbrev pub stop_id : ℕ → List ℕ
stop_id i = codes "s" ++ decimal i

abbrev pub route_id : ℕ → List ℕ
route_id l = codes "r" ++ decimal l

-- of the trip k on the route l
abbrev pub trip_id : ℕ → ℕ → List ℕ
trip_id l k = codes "f" ++ decimal l ++ codes "_" ++ decimal k

abbrev pub point_id : ℕ → List ℕ
point_id i = codes "p" ++ decimal i

abbrev pub query_id : ℕ → List ℕ
query_id i = codes "q" ++ decimal i
