-- Ids that stand for the columns of files.
use Rattle.std.proofs.Common.{◌≡◌, ℕ, Bool, true, false, not, ◌&&◌, List, [], ◌∷◌, ◌++◌, map, fold, Option, Some, None, refl, sym, ◌∙◌, ap}
use Rattle.std.specs.Borrow.{Bor}
use Rattle.std.specs.List.{list_all, list_any}
use Rattle.std.specs.Str.{bytes_eq}
use Rattle.std.proofs.lemmas.Bool.{and_parts}
use Rattle.flex_model.specs.declared.fault.InputFile.{InputFile}
use Rattle.flex_model.specs.declared.fault.InputFile.TheVariants.{LocationGroups}
use Rattle.feed_tables.specs.Records.{RowFields, header_of, rows_of}
use Rattle.feed_tables.specs.Refusals.{is_given}
use Rattle.feed_meaning.specs.FeedLinks.{Tables, is_station, is_unknown}
use Rattle.feed_meaning.specs.Indexes.{HasIds}
use Rattle.feed_meaning.specs.Noted.{noted}
use Rattle.feed_meaning.specs.Tables.{Entry, entry_of, value_named, values_of}
use Rattle.feed_meaning.proofs.LinkFacts.{has_ids}
use Rattle.feed_rules.specs.Links.{HaveGroupIds, StandForColumn, records_in}
use Prim.Native.String.{String}

-- what a test says of a text counts only where the text is given
pub where_given : (given one other : Bool) (f : Bool → Bool) → (given ≡ true → one ≡ other) → (given && f one) ≡ (given && f other)
where_given true one other f same = ap f (same refl)
where_given false one other f same = refl

-- a text that is unknown among the ids of a column is unknown in the column
pub unknown-in : (tables : Tables) (file : InputFile) (column : String) (ids : List (List ℕ)) (text value : List ℕ) (answer : Bool) → HasIds ids tables file column
    → answer ≡ (is_given text && not (list_any (bytes_eq text) ids)) → text ≡ value → answer ≡ is_unknown tables file column value
unknown-in tables file column ids text value answer has said is =
    said ∙ where_given (is_given text) _ _ not (has text) ∙ ap (is_unknown tables file column) is

-- a text that is a station's among the ids is one's in the tables
pub station-in : (tables : Tables) (ids : List (List ℕ)) (text value : List ℕ) (answer : Bool)
    → ((t : List ℕ) → is_given t ≡ true → list_any (bytes_eq t) ids ≡ is_station tables t)
    → answer ≡ (is_given text && list_any (bytes_eq text) ids) → text ≡ value → answer ≡ (is_given value && is_station tables value)
station-in tables ids text value answer has said is =
    said ∙ where_given (is_given text) _ _ (λ b. b) (has text) ∙ ap (λ t. is_given t && is_station tables t) is

pub cons_same : {X : Type 0} {x y : X} {xs ys : List X} → x ≡ y → xs ≡ ys → (x ∷ xs) ≡ (y ∷ ys)
cons_same {X} {x} {y} {xs} {ys} e es = ap (λ z. z ∷ xs) e ∙ ap (λ zs. y ∷ zs) es

-- the ids of a table's column stand for it
pub known_column : (table : Bor (List (List (List ℕ)))) (ids : List (List ℕ)) (name : List ℕ) (found : Option (Bor (List (List (List ℕ))))) → found ≡ Some table
    → ids ≡ fold noted [] (map (λ row. value_named (header_of table.now) row.fields name) (rows_of table.now)) → StandForColumn ids found name
known_column table ids name found is_there noted_ids tables file column is same =
    has_ids tables file column table.now ids (same ∙ ap records_in is_there)
    (noted_ids ∙ ap (λ n. fold noted [] (map (λ (row : RowFields). value_named (header_of table.now) row.fields n) (rows_of table.now))) is)

-- no ids stand for a column of no table
pub no_column : (ids : List (List ℕ)) (name : List ℕ) (found : Option (Bor (List (List (List ℕ))))) → found ≡ None → ids ≡ [] → StandForColumn ids found name
no_column ids name found is_none empty tables file column is same text given =
    ap (list_any (bytes_eq text)) empty ∙ ap (list_any (λ s. bytes_eq text (s column))) (sym (same ∙ ap records_in is_none))

-- where each of the records and one more has an id, the records have, and the one more has
pub ids_more : (header : List (List ℕ)) (seen : List RowFields) (row : RowFields) → HaveGroupIds LocationGroups (map (entry_of header) (seen ++ row ∷ []))
    → HaveGroupIds LocationGroups (map (entry_of header) seen) × (is_given (values_of header row.fields "location_group_id") ≡ true)
ids_more header [] row given = (refl, (and_parts (is_given (values_of header row.fields "location_group_id")) true given).0)
ids_more header (x ∷ seen) row given =
    let parts = and_parts (is_given (values_of header x.fields "location_group_id")) _ given in
    let more = ids_more header seen row parts.1 in
    (ap (λ b. b && list_all (λ (e : Entry). is_given (e.values "location_group_id")) (map (entry_of header) seen)) parts.0 ∙ more.0, more.1)
