-- What reading a query file gives.
use Rattle.std.specs.Prelude.{◌≡◌, ◌≢◌, List, [], All}
use Rattle.flex_model.specs.declared.fault.Fault.{Fault}
use Rattle.flex_model.specs.declared.fault.RawFile.{RawFile}
use Rattle.flex_model.specs.declared.feed.Feed.{Feed}
use Rattle.flex_model.specs.declared.query.Query.{Query}
use Rattle.flex_model.specs.declared.times.Times.{Times}
use Rattle.flex_model.specs.SoundQuery.{IsSoundQuery}
use Rattle.feed_meaning.specs.QueryFaults.{query_faults}
use Rattle.feed_meaning.specs.TimesValue.{queries_of}
use Rattle.query_io.specs.declared.queries.ReadQueries.{ReadQueries}
use Rattle.query_io.specs.declared.queries.ReadQueries.TheVariants.{Clean, Faulty}

-- the queries where there are no faults, and else the faults
abbrev pub HoldsQueries : List Fault → List Query → ReadQueries → Type 0
HoldsQueries faults queries (Clean read) = (faults ≡ []) × (read ≡ queries)
HoldsQueries faults queries (Faulty read) = (faults ≢ []) × (read ≡ faults)

-- A query file without faults gives its queries, all of them sound. Another gives its faults.
abbrev pub AreRead : Feed → Times → RawFile → ReadQueries → Type 0
AreRead feed times raw (Clean read) =
    (query_faults feed times raw ≡ []) × (read ≡ queries_of feed times raw)
    × All (IsSoundQuery feed times) read
AreRead feed times raw (Faulty read) =
    (query_faults feed times raw ≢ []) × (read ≡ query_faults feed times raw)
