-- Links between tables, looked up among ids.
use Rattle.std.proofs.Common.{fold, ◌≡◌, ℕ, List, [], ◌∷◌, ◌++◌, map, sym, ◌∙◌, ap}
use Rattle.std.specs.Prelude.{codes, position, unwrap_or}
use Rattle.std.specs.List.{flat_map, list_any}
use Rattle.std.specs.Str.{bytes_eq}
use Rattle.std.proofs.lemmas.List.{append-nil, map-append}
use Rattle.std.proofs.lemmas.List.Concat.{flat_map-append}
use Rattle.flex_model.specs.declared.fault.Fault.{Fault}
use Rattle.flex_model.specs.declared.fault.InputFile.{InputFile}
use Rattle.feed_tables.specs.Records.{RowFields, header_of, rows_of}
use Rattle.feed_meaning.specs.FeedLinks.{Tables}
use Rattle.feed_meaning.specs.FeedValue.{index_in}
use Rattle.feed_meaning.specs.Indexes.{HasIds}
use Rattle.feed_meaning.specs.Noted.{noted}
use Rattle.feed_meaning.specs.Rules.{Rule, Values}
use Rattle.feed_meaning.specs.Tables.{Entry, entries_of, entry_of, faults_at, value_named, values_of}
use Rattle.feed_meaning.proofs.IdFacts.{all_noted-has, list_any-map, position-map}
use Prim.Native.String.{String}

-- the faults of one more record go last
pub link_more : (file : InputFile) (links : Values → List Rule) (header : List (List ℕ)) (seen : List RowFields) (row : RowFields) (before after : List Fault) (found : List Rule)
    → before ≡ flat_map (λ e. faults_at file e.row (links e.values)) (map (entry_of header) seen)
    → after ≡ before ++ faults_at file row.number found → found ≡ links (values_of header row.fields)
    → after ≡ flat_map (λ e. faults_at file e.row (links e.values)) (map (entry_of header) (seen ++ row ∷ []))
link_more file links header seen row before after found earlier added same =
    let at : Entry → List Fault = λ e. faults_at file e.row (links e.values) in
    added ∙ ap (λ fs. fs ++ faults_at file row.number found) earlier
    ∙ ap (λ rs. flat_map at (map (entry_of header) seen) ++ faults_at file row.number rs) same
    ∙ ap (λ fs. flat_map at (map (entry_of header) seen) ++ fs) (sym (append-nil _))
    ∙ sym (flat_map-append at (map (entry_of header) seen) (entry_of header row ∷ []))
    ∙ ap (flat_map at) (sym (map-append (entry_of header) seen (row ∷ [])))

-- ids that were noted of a column of a table stand for it
pub has_ids : (tables : Tables) (file : InputFile) (column : String) (records : List (List (List ℕ))) (ids : List (List ℕ))
    → tables file ≡ map (λ e. e.values) (entries_of records)
    → ids ≡ fold noted [] (map (λ row. value_named (header_of records) row.fields (codes column)) (rows_of records))
    → HasIds ids tables file column
has_ids tables file column records ids same noted_ids text given =
    let of : RowFields → List ℕ = λ row. value_named (header_of records) row.fields (codes column) in
    let rows = rows_of records in
    ap (list_any (bytes_eq text)) noted_ids ∙ all_noted-has text [] (map of rows) given ∙ list_any-map of (bytes_eq text) rows
    ∙ sym (list_any-map (entry_of (header_of records)) (λ e. bytes_eq text (e.values column)) rows)
    ∙ sym (list_any-map (λ e. e.values) (λ s. bytes_eq text (s column)) (entries_of records))
    ∙ ap (list_any (λ s. bytes_eq text (s column))) (sym same)

-- the index of a text is its place among the ids of the column
pub index_in-position : (tables : Tables) (file : InputFile) (column : String) (text : List ℕ)
    → index_in tables file column text ≡ unwrap_or (position (bytes_eq text) (map (λ s. s column) (tables file))) 0
index_in-position tables file column text = ap (λ o. unwrap_or o 0) (sym (position-map (λ (s : Values). s column) (bytes_eq text) (tables file)))
