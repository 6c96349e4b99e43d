-- Ids of stations, after one more stop.
use Rattle.std.proofs.Common.{◌≡◌, ℕ, Bool, true, false, not, ◌&&◌, ◌||◌, List, [], ◌∷◌, ◌++◌, map, refl, sym, ◌∙◌, ap}
use Rattle.std.specs.List.{list_any}
use Rattle.std.specs.Str.{bytes_eq}
use Rattle.std.proofs.Math.Bool.{or-false}
use Rattle.std.proofs.lemmas.List.Folds.{list_any-append}
use Rattle.feed_tables.specs.Records.{RowFields}
use Rattle.feed_tables.specs.Refusals.{is_given}
use Rattle.feed_meaning.specs.FeedRules.{is_boarding}
use Rattle.feed_meaning.specs.Noted.{noted}
use Rattle.feed_meaning.specs.Rules.{Values}
use Rattle.feed_meaning.specs.Tables.{entry_of, values_of}
use Rattle.feed_meaning.proofs.IdFacts.{all_noted-has}
use Rattle.feed_rules.proofs.PairFacts.{values_more}

-- the stop has this id, and one can't board there
abbrev pub is_station_of : List ℕ → Values → Bool
is_station_of text s = bytes_eq text (s "stop_id") && not (is_boarding s)

-- the ids are those of the stations among the stops
abbrev pub AreStations : List (List ℕ) → List Values → Type 0
AreStations ids stops = (text : List ℕ) → is_given text ≡ true → list_any (bytes_eq text) ids ≡ list_any (is_station_of text) stops

more : (text : List ℕ) (stops : List Values) (r : Values) → list_any (is_station_of text) (stops ++ r ∷ []) ≡ (list_any (is_station_of text) stops || is_station_of text r)
more text stops r = list_any-append (is_station_of text) stops (r ∷ []) ∙ ap (λ b. list_any (is_station_of text) stops || b) (or-false (is_station_of text r))

-- a stop where one can board changes nothing
pub boarding_more : (ids : List (List ℕ)) (header : List (List ℕ)) (seen : List RowFields) (row : RowFields) → is_boarding (values_of header row.fields) ≡ true
    → AreStations ids (map (λ x. x.values) (map (entry_of header) seen)) → AreStations ids (map (λ x. x.values) (map (entry_of header) (seen ++ row ∷ [])))
boarding_more ids header seen row boards earlier text given =
    let stops = map (λ x. x.values) (map (entry_of header) seen) in
    let r = values_of header row.fields in
    earlier text given ∙ sym (or-false (list_any (is_station_of text) stops))
    ∙ ap (λ b. list_any (is_station_of text) stops || b) (by (bytes_eq text (r "stop_id")) ∙ ap (λ b. bytes_eq text (r "stop_id") && not b) (sym boards))
    ∙ sym (more text stops r) ∙ ap (list_any (is_station_of text)) (sym (values_more header seen row))
  where
    by : (b : Bool) → false ≡ (b && false)
    by true = refl
    by false = refl

-- a station's id is noted
pub station_more : (ids after : List (List ℕ)) (header : List (List ℕ)) (seen : List RowFields) (row : RowFields) (stop : List ℕ) → is_boarding (values_of header row.fields) ≡ false
    → stop ≡ values_of header row.fields "stop_id" → after ≡ noted ids stop → AreStations ids (map (λ x. x.values) (map (entry_of header) seen))
    → AreStations after (map (λ x. x.values) (map (entry_of header) (seen ++ row ∷ [])))
station_more ids after header seen row stop boards is added earlier text given =
    let stops = map (λ x. x.values) (map (entry_of header) seen) in
    let r = values_of header row.fields in
    ap (list_any (bytes_eq text)) added ∙ all_noted-has text ids (stop ∷ []) given
    ∙ ap (λ b. list_any (bytes_eq text) ids || b) (or-false (bytes_eq text stop) ∙ ap (bytes_eq text) is ∙ by (bytes_eq text (r "stop_id")) ∙ ap (λ b. bytes_eq text (r "stop_id") && not b) (sym boards))
    ∙ ap (λ b. b || is_station_of text r) (earlier text given)
    ∙ sym (more text stops r) ∙ ap (list_any (is_station_of text)) (sym (values_more header seen row))
  where
    by : (b : Bool) → b ≡ (b && true)
    by true = refl
    by false = refl
