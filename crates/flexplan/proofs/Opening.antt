-- What the files told, read in steps, opens.
use Rattle.std.proofs.Common.{◌≡◌, ℕ, ℤ, List, Some, IfOk, Result, Ok, Err, ap, subst, sym, ◌∙◌}
use Rattle.flex_io.specs.Outside.{FileMap}
use Rattle.flex_model.specs.declared.fault.Fault.{Fault}
use Rattle.flex_model.specs.declared.fault.InputFile.TheVariants.{Queries, ZoneText, ZoneTzif}
use Rattle.flex_model.specs.declared.fault.RawFile.{RawFile}
use Rattle.flex_model.specs.declared.feed.Feed.{Feed}
use Rattle.flex_model.specs.declared.query.Query.{Query}
use Rattle.flex_model.specs.declared.times.Times.{Times}
use Rattle.feed_meaning.specs.FeedFaults.{Geo}
use Rattle.feed_meaning.specs.Files.{byte_limit}
use Rattle.feed_meaning.specs.TimesFaults.{times_faults}
use Rattle.feed_meaning.specs.TimesValue.{times_of}
use Rattle.feed_meaning.specs.Told.{told_file}
use Rattle.place_times.specs.Loads.{AreLoaded, IsZoneFound, judged_by}
use Rattle.place_times.specs.declared.folder.LoadedTimes.TheVariants as loaded
use Rattle.query_io.specs.Reads.{AreRead}
use Rattle.query_io.specs.declared.queries.ReadQueries.{ReadQueries}
use Rattle.query_io.specs.declared.queries.ReadQueries.TheVariants.{Clean}
use Rattle.flexplan.specs.Input.{IsAccepted, feed, feed_folder, queries, query_file, times, times_folder}
use Rattle.feed_meaning.specs.Locations.{zones_of}
use Rattle.feed_load.specs.Loads.{IsLoaded}
use Rattle.feed_load.specs.declared.folder.Loaded.TheVariants as feed_loaded
use Rattle.flexplan.specs.Opened.{HoldsFeed, HoldsTimes, IsOpened, IsOpenedBy, IsRefused}
use Rattle.flexplan.specs.declared.input.Opened.{Opened}
use Rattle.flexplan.specs.declared.input.Opened.TheVariants.{Refused}
use Rattle.flexplan.specs.Words.{InputPaths}
use Rattle.flexplan.specs.declared.status.Status.TheVariants.{FeedFaulty, TimesFaulty}

-- what was fetched is the query file
pub is_query_file : (files : FileMap) (paths : InputPaths) (limit : ℕ) (path : List ℕ) (raw : RawFile) → limit ≡ byte_limit Queries → paths.queries ≡ path
    → raw ≡ told_file files limit path → raw ≡ query_file files paths
is_query_file files paths limit path raw limit_is path_is raw_is =
    raw_is ∙ ap (λ l. told_file files l path) limit_is ∙ ap (told_file files (byte_limit Queries)) (sym path_is)

-- the times folder is accepted, with the times and the zone that were loaded
pub with_times : (geo : Geo) (files : FileMap) (paths : InputPaths) (held : Feed) (its : Times) (bases : List ℤ) → HoldsFeed geo files paths held
    → AreLoaded held (times_folder files paths) (loaded.Clean its bases) → HoldsTimes geo files paths held its bases
with_times geo files paths held its bases holds are =
    let folder = times_folder files paths in (
      record {
        accepted = holds.0;
        zone = subst (IsZoneFound (folder ZoneText) (folder ZoneTzif)) are.given are.found;
        none = sym (ap (λ f. times_faults (judged_by (Some bases)) f folder) holds.1)
            ∙ sym (ap (λ z. times_faults (judged_by z) held folder) are.given) ∙ are.whole.0;
      },
      holds.1,
      are.whole.1 ∙ ap (λ f. times_of f folder) holds.1,
    )

-- the times folder has the faults that were loaded
pub with_faulty_times : (geo : Geo) (files : FileMap) (paths : InputPaths) (held : Feed) (faults : List Fault) → HoldsFeed geo files paths held
    → AreLoaded held (times_folder files paths) (loaded.Faulty faults) → IsRefused geo files paths TimesFaulty faults
with_faulty_times geo files paths held faults holds are =
    let folder = times_folder files paths in (
      holds.0,
      (λ none. are.whole.0 (sym are.whole.1 ∙ none)),
      (are.bases, are.found, are.whole.1 ∙ ap (λ f. times_faults (judged_by are.bases) f folder) holds.1),
    )

-- what was read of the query file is what it holds
queries_there : (geo : Geo) (files : FileMap) (paths : InputPaths) (held : Feed) (its : Times) (bases : List ℤ) (raw : RawFile) (read : ReadQueries)
    → HoldsTimes geo files paths held its bases → raw ≡ query_file files paths → AreRead held its raw read
    → AreRead (feed geo files paths) (times geo files paths) (query_file files paths) read
queries_there geo files paths held its bases raw read holds raw_is is =
    subst (λ x. AreRead x (times geo files paths) (query_file files paths) read) holds.1
    (subst (λ x. AreRead held x (query_file files paths) read) holds.2 (subst (λ x. AreRead held its x read) raw_is is))

-- the input is accepted, with the queries that were read
pub with_queries : (geo : Geo) (files : FileMap) (paths : InputPaths) (held : Feed) (its : Times) (bases : List ℤ) (raw : RawFile) (read : List Query)
    → HoldsTimes geo files paths held its bases → raw ≡ query_file files paths → AreRead held its raw (Clean read)
    → IsAccepted geo files paths bases × (read ≡ queries geo files paths)
with_queries geo files paths held its bases raw read holds raw_is is =
    let told = queries_there geo files paths held its bases raw (Clean read) holds raw_is is in
    (record { accepted = holds.0; none = told.0 }, told.1)

-- by each way to read locations.geojson that its scans give, the feed is accepted
pub with_feed : {E : Type 0} (files : FileMap) (paths : InputPaths) (held : Feed) (r : Result Opened E) → IsLoaded (feed_folder files paths) (feed_loaded.Clean held)
    → ((geo : Geo) → HoldsFeed geo files paths held → IfOk r (IsOpenedBy geo files paths)) → IfOk r (IsOpened files paths)
with_feed files paths held (Ok opened) are holds = λ scan scans.
    let its = are scan scans in
    holds (zones_of scan) (record { none = its.0 }, its.1)
with_feed files paths held (Err e) are holds = tt

-- or it has the faults that were loaded
pub with_faulty_feed : (files : FileMap) (paths : InputPaths) (faults : List Fault) → IsLoaded (feed_folder files paths) (feed_loaded.Faulty faults)
    → IsOpened files paths (Refused FeedFaulty faults)
with_faulty_feed files paths faults are = λ scan scans. are scan scans
