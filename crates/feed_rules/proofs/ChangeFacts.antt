-- The changes of transfers.txt that were met.
use Rattle.std.proofs.Common.{◌≡◌, ℕ, Bool, true, false, not, ◌&&◌, ◌||◌, cond, List, [], ◌∷◌, ◌++◌, Option, Some, refl, sym, ◌∙◌, ap, subst}
use Rattle.std.specs.Borrow.{Bor}
use Rattle.std.specs.List.{list_any}
use Rattle.std.specs.Str.{bytes_eq}
use Rattle.std.proofs.lemmas.Bool.{false≢true}
use Rattle.std.proofs.lemmas.List.{map-append}
use Rattle.std.proofs.lemmas.List.Elements.{filter-append}
use Rattle.std.proofs.lemmas.Slice.Eq.{bytes_eq-Decides}
use Rattle.indexmap.specs.IndexSet.{insert_key}
use Rattle.feed_tables.specs.Refusals.{is_given}
use Rattle.field_text.specs.Grammars.{id}
use Rattle.feed_meaning.specs.FeedRules.{is_passed_over}
use Rattle.feed_meaning.specs.Rules.{Values, both}
use Rattle.feed_meaning.proofs.IdFacts.{list_any-map}
use Rattle.feed_rules.specs.Pairs.{has_pair, is_pair}
use Rattle.feed_rules.specs.Transfers.{AreStopsMet, changes, stops_of, texts_of}
use Rattle.feed_rules.proofs.PairFacts.{inserted, met_more}

-- ---- one more pair of stops

bytes_eq-congr : (x y z : List ℕ) → bytes_eq x y ≡ true → bytes_eq x z ≡ bytes_eq y z
bytes_eq-congr x y z e = ap (λ t. bytes_eq t z) ((bytes_eq-Decides x y).0 e)

abbrev same_stops : Bor (List ℕ) × Bor (List ℕ) → Bor (List ℕ) × Bor (List ℕ) → Bool
same_stops x y = bytes_eq x.0.now y.0.now && bytes_eq x.1.now y.1.now

abbrev same_texts : Bor (List ℕ) × List ℕ → Bor (List ℕ) × List ℕ → Bool
same_texts x y = bytes_eq x.0.now y.0.now && bytes_eq x.1 y.1

texts_of-cond : (b : Bool) (met : List (Bor (List ℕ) × Bor (List ℕ))) (k : Bor (List ℕ) × Bor (List ℕ))
    → texts_of (cond b met (met ++ k ∷ [])) ≡ cond b (texts_of met) (texts_of met ++ (k.0, k.1.now) ∷ [])
texts_of-cond true met k = refl
texts_of-cond false met k = map-append (λ x. (x.0, x.1.now)) met (k ∷ [])

texts_of-insert : (met : List (Bor (List ℕ) × Bor (List ℕ))) (k : Bor (List ℕ) × Bor (List ℕ))
    → texts_of (insert_key same_stops met k) ≡ insert_key same_texts (texts_of met) (k.0, k.1.now)
texts_of-insert met k =
    texts_of-cond (list_any (same_stops k) met) met k
    ∙ ap (λ b. cond b (texts_of met) (texts_of met ++ (k.0, k.1.now) ∷ [])) (sym (list_any-map (λ x. (x.0, x.1.now)) (same_texts (k.0, k.1.now)) met))

pub both_given : (t u : List ℕ) → is_given t ≡ true → is_given u ≡ true → both (id t) (id u) ≡ Some (t, u)
both_given [] u e h = absurd (false≢true e)
both_given (b ∷ t) [] e h = absurd (false≢true h)
both_given (b ∷ t) (d ∷ u) e h = refl

pub stops_inserted : (met met' : List (Bor (List ℕ) × Bor (List ℕ))) (from to : Bor (List ℕ)) (o : Option (List ℕ × List ℕ)) (q : List ℕ × List ℕ)
    → met' ≡ insert_key same_stops met (from, to) → o ≡ Some (from.now, to.now)
    → has_pair bytes_eq (texts_of met') q ≡ (has_pair bytes_eq (texts_of met) q || is_pair bytes_eq q o)
stops_inserted met met' from to o q added is =
    inserted bytes_eq bytes_eq-congr (texts_of met) (texts_of met') (from, to.now) o q (ap texts_of added ∙ texts_of-insert met (from, to)) is

-- whether a pair was met, as the set tells it
pub stops_found : (met : List (Bor (List ℕ) × Bor (List ℕ))) (from to : Bor (List ℕ))
    → list_any (same_stops (from, to)) met ≡ has_pair bytes_eq (texts_of met) (from.now, to.now)
stops_found met from to = sym (list_any-map (λ x. (x.0, x.1.now)) (same_texts (from, to.now)) met)

-- ---- one more record

changes-more : (earlier : List Values) (r : Values) → is_passed_over r ≡ false → changes (earlier ++ r ∷ []) ≡ changes earlier ++ r ∷ []
changes-more earlier r is =
    filter-append (λ e. not (is_passed_over e)) earlier (r ∷ []) ∙ ap (λ p. changes earlier ++ cond (not p) (r ∷ []) []) is

pub stops_met_more : (met met' : List (Bor (List ℕ) × Bor (List ℕ))) (earlier : List Values) (r : Values) (o : Option (List ℕ × List ℕ))
    → AreStopsMet met (changes earlier)
    → ((q : List ℕ × List ℕ) → has_pair bytes_eq (texts_of met') q ≡ (has_pair bytes_eq (texts_of met) q || is_pair bytes_eq q o))
    → o ≡ stops_of r → is_passed_over r ≡ false → AreStopsMet met' (changes (earlier ++ r ∷ []))
stops_met_more met met' earlier r o before added same is =
    subst (AreStopsMet met') (sym (changes-more earlier r is)) (met_more bytes_eq stops_of (texts_of met) (texts_of met') (changes earlier) r o before added same)
