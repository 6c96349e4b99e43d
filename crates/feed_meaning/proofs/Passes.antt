-- One pass over the records of a table gives their faults.
use Rattle.std.proofs.Common.{◌≡◌, ℕ, ◌+◌, ◌<◌, Bool, ◌&&◌, fold, List, [], ◌∷◌, ◌++◌, None, map, take, length, get_or, sym, ◌∙◌, ap}
use Rattle.std.specs.List.{filter_map, flat_map, list_any}
use Rattle.std.specs.Str.{bytes_eq}
use Rattle.std.proofs.lemmas.List.{append-nil, append_assoc, map-append, take_more}
use Rattle.std.proofs.lemmas.List.Concat.{flat_map-append}
use Rattle.std.proofs.lemmas.List.Elements.{filter_map-append}
use Rattle.std.proofs.lemmas.List.Sums.{fold_push}
use Rattle.std.proofs.lemmas.Simd.{map-map}
use Rattle.flex_model.specs.declared.fault.Fault.{Fault}
use Rattle.flex_model.specs.declared.fault.InputFile.{InputFile}
use Rattle.feed_tables.specs.Records.{RowFields}
use Rattle.feed_tables.specs.Refusals.{is_given}
use Rattle.feed_meaning.specs.Rules.{Rule, Rules, repeats_id}
use Rattle.feed_meaning.specs.Tables.{Entry, entry_of, fault, faults_at, record_faults, values_of, with_earlier, with_earlier_from}
use Rattle.feed_meaning.specs.Noted.{noted}
use Rattle.feed_meaning.proofs.IdFacts.{repeats_id-noted}
use Prim.Native.String.{String}

-- one more rule: its fault goes last
pub faults_at_more : (file : InputFile) (row : ℕ) (rules : List Rule) (i : ℕ) (d : Rule) → i < length rules
    → faults_at file row (take (i + 1) rules) ≡ faults_at file row (take i rules) ++ faults_at file row (get_or rules i d ∷ [])
faults_at_more file row rules i d h =
    ap (faults_at file row) (take_more rules i d h)
    ∙ ap (map (fault file row)) (filter_map-append (λ r. r) (take i rules) (get_or rules i d ∷ []))
    ∙ map-append (fault file row) (filter_map (λ r. r) (take i rules)) (filter_map (λ r. r) (get_or rules i d ∷ []))

-- the same of faults that are added to others
pub added_more : (file : InputFile) (row : ℕ) (rules : List Rule) (i : ℕ) (first before after : List Fault) (r : Rule) → i < length rules → get_or rules i None ≡ r
    → before ≡ first ++ faults_at file row (take i rules) → after ≡ before ++ faults_at file row (r ∷ []) → after ≡ first ++ faults_at file row (take (i + 1) rules)
added_more file row rules i first before after r low is earlier added =
    added ∙ ap (λ fs. fs ++ faults_at file row (r ∷ [])) earlier ∙ append_assoc first (faults_at file row (take i rules)) (faults_at file row (r ∷ []))
    ∙ ap (λ x. first ++ (faults_at file row (take i rules) ++ faults_at file row (x ∷ []))) (sym is)
    ∙ ap (λ fs. first ++ fs) (sym (faults_at_more file row rules i None low))

-- one more item goes last, beside all before it
pub with_earlier_more : {X : Type 0} (first xs : List X) (x : X) → with_earlier_from first (xs ++ x ∷ []) ≡ with_earlier_from first xs ++ (first ++ xs, x) ∷ []
unfolding with_earlier_from
with_earlier_more first [] x = ap (λ ys. (ys, x) ∷ []) (sym (append-nil first))
with_earlier_more first (y ∷ xs) x =
    ap (λ ps. (first, y) ∷ ps) (with_earlier_more (first ++ y ∷ []) xs x ∙ ap (λ ys. with_earlier_from (first ++ y ∷ []) xs ++ (ys, x) ∷ []) (append_assoc first (y ∷ []) xs))

-- one more record: its faults go last
pub record_faults_more : (file : InputFile) (rules : Rules) (entries : List Entry) (e : Entry)
    → record_faults file rules (entries ++ e ∷ []) ≡ record_faults file rules entries ++ faults_at file e.row (rules (map (λ x. x.values) entries) e.values)
record_faults_more file rules entries e =
    ap (flat_map (λ p. faults_at file p.1.row (rules (map (λ x. x.values) p.0) p.1.values))) (with_earlier_more [] entries e)
    ∙ flat_map-append _ (with_earlier entries) ((entries, e) ∷ [])
    ∙ ap (λ fs. record_faults file rules entries ++ fs) (append-nil _)

-- the faults of a table after one more record
pub pass_more : (file : InputFile) (rules : Rules) (header : List (List ℕ)) (seen : List RowFields) (row : RowFields) (before after : List Fault) (broken : List Rule)
    → before ≡ record_faults file rules (map (entry_of header) seen)
    → after ≡ before ++ faults_at file row.number broken
    → broken ≡ rules (map (λ x. x.values) (map (entry_of header) seen)) (values_of header row.fields)
    → after ≡ record_faults file rules (map (entry_of header) (seen ++ row ∷ []))
pass_more file rules header seen row before after broken earlier added same =
    added ∙ ap (λ fs. fs ++ faults_at file row.number broken) earlier
    ∙ ap (λ b. record_faults file rules (map (entry_of header) seen) ++ faults_at file row.number b) same
    ∙ sym (record_faults_more file rules (map (entry_of header) seen) (entry_of header row))
    ∙ ap (record_faults file rules) (sym (map-append (entry_of header) seen (row ∷ [])))

-- the ids that were met after one more record
pub ids_more : (column : String) (header : List (List ℕ)) (seen : List RowFields) (row : RowFields) (before after : List (List ℕ)) (text : List ℕ)
    → before ≡ fold noted [] (map (λ e. e.values column) (map (entry_of header) seen))
    → after ≡ noted before text → text ≡ values_of header row.fields column
    → after ≡ fold noted [] (map (λ e. e.values column) (map (entry_of header) (seen ++ row ∷ [])))
ids_more column header seen row before after text earlier added same =
    let of : RowFields → List ℕ = λ x. values_of header x.fields column in
    added ∙ ap (λ ids. noted ids text) earlier ∙ ap (λ t. noted (fold noted [] (map (λ e. e.values column) (map (entry_of header) seen))) t) same
    ∙ sym (fold_push noted [] (map (λ e. e.values column) (map (entry_of header) seen)) (values_of header row.fields column))
    ∙ ap (fold noted []) (sym (map-append (λ e. e.values column) (map (entry_of header) seen) (entry_of header row ∷ []))
    ∙ ap (map (λ e. e.values column)) (sym (map-append (entry_of header) seen (row ∷ []))))

-- an id repeats among the records that were met
pub repeats_seen : (column : String) (header : List (List ℕ)) (seen : List RowFields) (row : RowFields) (ids : List (List ℕ)) (text : List ℕ) (repeated : Bool)
    → ids ≡ fold noted [] (map (λ e. e.values column) (map (entry_of header) seen)) → text ≡ values_of header row.fields column
    → repeated ≡ (is_given text && list_any (bytes_eq text) ids)
    → repeated ≡ repeats_id column (map (λ x. x.values) (map (entry_of header) seen)) (values_of header row.fields)
repeats_seen column header seen row ids text repeated earlier same answer =
    let here = values_of header row.fields column in
    answer ∙ ap (λ t. is_given t && list_any (bytes_eq t) ids) same
    ∙ ap (λ xs. is_given here && list_any (bytes_eq here) xs) (earlier ∙ ap (fold noted []) (sym (map-map (λ v. v column) (λ e. e.values) (map (entry_of header) seen))))
    ∙ sym (repeats_id-noted column (map (λ x. x.values) (map (entry_of header) seen)) (values_of header row.fields))
