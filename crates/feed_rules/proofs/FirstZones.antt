-- The first zone of the agencies.
use Rattle.std.proofs.Common.{◌≡◌, ℕ, Bool, not, List, [], ◌∷◌, ◌++◌, Option, Some, None, map, take, sym, ◌∙◌, ap}
use Rattle.std.specs.Borrow.{Bor}
use Rattle.std.specs.List.{list_any}
use Rattle.std.specs.Option.{option_or, option_to_list}
use Rattle.std.specs.Str.{bytes_eq}
use Rattle.feed_tables.specs.Records.{RowFields}
use Rattle.feed_meaning.specs.Rules.{Values}
use Rattle.feed_meaning.specs.Tables.{entry_of, values_of}
use Rattle.feed_meaning.proofs.IdFacts.{list_any-map}
use Rattle.feed_rules.proofs.PairFacts.{values_more}

-- the zone of the first record, where there is one
abbrev pub zones : Option (Bor (List ℕ)) → List (List ℕ)
zones first = map (λ text. text.now) (option_to_list first)

abbrev pub first_zones : List Values → List (List ℕ)
first_zones records = map (λ e. e "agency_timezone") (take 1 records)

pub differs_seen : (first : Option (Bor (List ℕ))) (zone : List ℕ) (earlier : List Values) (r : Values) (differs : Bool) → zones first ≡ first_zones earlier
    → zone ≡ r "agency_timezone" → differs ≡ list_any (λ text. not (bytes_eq text.now zone)) (option_to_list first)
    → differs ≡ list_any (λ e. not (bytes_eq (e "agency_timezone") (r "agency_timezone"))) (take 1 earlier)
differs_seen first zone earlier r differs same is answer =
    answer ∙ sym (list_any-map (λ text. text.now) (λ t. not (bytes_eq t zone)) (option_to_list first))
    ∙ ap (list_any (λ t. not (bytes_eq t zone))) same
    ∙ list_any-map (λ e. e "agency_timezone") (λ t. not (bytes_eq t zone)) (take 1 earlier)
    ∙ ap (λ z. list_any (λ e. not (bytes_eq (e "agency_timezone") z)) (take 1 earlier)) is

first-pushed : (first : Option (Bor (List ℕ))) (zone : Bor (List ℕ)) (earlier : List Values) (r : Values) → zone.now ≡ r "agency_timezone" → zones first ≡ first_zones earlier
    → zones (option_or first (Some zone)) ≡ first_zones (earlier ++ r ∷ [])
first-pushed None zone [] r is same = ap (λ t. t ∷ []) is
first-pushed None zone (e ∷ earlier) r is same = cc
first-pushed (Some text) zone [] r is same = cc
first-pushed (Some text) zone (e ∷ earlier) r is same = same

pub first_more : (header : List (List ℕ)) (seen : List RowFields) (row : RowFields) (first : Option (Bor (List ℕ))) (zone : Bor (List ℕ))
    → zone.now ≡ values_of header row.fields "agency_timezone" → zones first ≡ first_zones (map (λ x. x.values) (map (entry_of header) seen))
    → zones (option_or first (Some zone)) ≡ first_zones (map (λ x. x.values) (map (entry_of header) (seen ++ row ∷ [])))
first_more header seen row first zone is same =
    first-pushed first zone (map (λ x. x.values) (map (entry_of header) seen)) (values_of header row.fields) is same
    ∙ ap first_zones (sym (values_more header seen row))
