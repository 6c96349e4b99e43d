-- A repeat by its texts is that of the feed, and a trip has some where frequencies.txt names it.
use Rattle.std.proofs.Common.{◌≡◌, ℕ, suc, Bool, true, false, not, ◌&&◌, ◌||◌, cond, List, [], ◌∷◌, All, Option, None, Some, map, length, get_or, nat_lt, refl, ap, arith, lit<, lit≤}
use Rattle.std.specs.Prelude.{◌==◌, filter, is_none}
use Rattle.std.specs.List.{list_any}
use Rattle.std.proofs.lemmas.Bool.{ne_eqb, true≢false}
use Rattle.flex_model.specs.declared.fault.FaultCode.TheVariants as code
use Rattle.flex_model.specs.declared.fault.InputFile.TheVariants.{Frequencies}
use Rattle.flex_model.specs.declared.trip.Repeat.{Repeat}
use Rattle.feed_tables.specs.Refusals.{is_given}
use Rattle.field_text.specs.Grammars.{count}
use Rattle.feed_meaning.specs.FeedLinks.{Tables}
use Rattle.feed_meaning.specs.FeedRules.{is_positive_count}
use Rattle.feed_meaning.specs.FeedValue.{repeat_of, seconds}
use Rattle.feed_meaning.specs.Rules.{Values, stand}
use Rattle.feed_meaning.proofs.Kept.{is_kept}
use Rattle.feed_meaning.proofs.KeptFeeds.{KeepsFeedRules}
use Rattle.feed_load.specs.Repeats.{HasHeadway, read_repeat}
use Rattle.feed_load.proofs.Counts.{number_is, wider}

made : Values → ℕ → Repeat
made r headway = record { first = seconds (r "start_time"); end = seconds (r "end_time"); headway = headway }

pub repeat_is : (r : Values) → HasHeadway r → read_repeat r ≡ repeat_of r
unfolding made
repeat_is r kept = ap (made r) (number_is (r "headway_secs") kept)

-- something is kept of a list where something passes
pub some_kept : {X Y : Type 0} (f : X → Y) (p : X → Bool) (xs : List X) → not (length (map f (filter p xs)) == 0) ≡ list_any p xs
some_kept f p [] = refl
some_kept f p (x ∷ xs) = by (some_kept f p xs) (p x)
  where
    by : not (length (map f (filter p xs)) == 0) ≡ list_any p xs → (b : Bool) → not (length (map f (cond b (x ∷ filter p xs) (filter p xs))) == 0) ≡ (b || list_any p xs)
    by rest true = ap not (ne_eqb (suc (length (map f (filter p xs)))) 0 (λ e. omega arith))
    by rest false = rest

-- ---- what tables without faults say

positive-count : (o : Option ℕ) (given : Bool) → not (stand nat_lt (Some 0) o) ≡ false → (given && is_none o) ≡ false
positive-count None given kept = absurd (true≢false kept)
positive-count (Some n) true kept = refl
positive-count (Some n) false kept = refl

-- the records of frequencies.txt have headways
pub headways_kept : (tables : Tables) → KeepsFeedRules tables → All HasHeadway (tables Frequencies)
headways_kept tables kept i d low =
    let text = get_or (tables Frequencies) i d "headway_secs" in
    wider 86400 text (lit≤ tt)
    (positive-count (count 86400 text) (is_given text)
    (is_kept code.BadNumber (not (is_positive_count 86400 text)) (kept.frequencies.alone.at i d low 4 None (lit< tt))))
