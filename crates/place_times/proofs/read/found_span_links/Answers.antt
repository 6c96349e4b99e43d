use Rattle.std.proofs.Common.{◌≡◌, List, map, sym, ◌∙◌, ap}
use Rattle.std.specs.List.{flat_map}
use Rattle.std.proofs.lemmas.Result.{IfOk-weaker}
use Rattle.flex_model.specs.declared.fault.Fault.{Fault}
use Rattle.flex_model.specs.declared.feed.Feed.{Feed}
use Rattle.feed_meaning.specs.Rules.{Values}
use Rattle.feed_meaning.specs.Tables.{entries_of, faults_at}
use Rattle.feed_meaning.specs.TimesFaults.{span_links}
use Rattle.feed_meaning.specs.TimesValue.{point_of}
use Rattle.place_times.specs.Levels.{span_link_list}
use Rattle.place_times.specs.Places.{ArePlaceIds}
use Rattle.place_times.proofs.read.found_span_links.Goals as goal

pub returns-in-Read : goal.returns-in-Read
returns-in-Read c =
    let file = c.args.file in
    let es = entries_of c.in-Read.table in
    let P : List Fault → Type 0 = λ faults. (feed : Feed) (points : List Values) → ArePlaceIds feed (map point_of points) c.args.ids.now
    → faults ≡ flat_map (λ e. faults_at file e.row (span_links feed points e.values)) es in
    let Q : List Fault → Type 0 = λ faults. (feed : Feed) (points : List Values) → ArePlaceIds feed (map point_of points) c.args.ids.now
    → faults ≡ span_link_list feed points file c.args.found.now in
    IfOk-weaker c.span_link_faults.result P Q (λ faults h feed points are. h feed points are ∙ ap (span_link_list feed points file) (sym c.in-Read.is)) c.span_link_faults.ensures
