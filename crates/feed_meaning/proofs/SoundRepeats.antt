-- The repeats of trips of tables without faults are sound, and a trip has some where it is frequent.
use Rattle.std.proofs.Common.{◌≡◌, ◌↔◌, ℕ, ◌<◌, ◌≤◌, Bool, true, false, not, ◌||◌, cond, List, [], ◌∷◌, All, Option, None, Some, map, length, get_or, nat_lt, refl, arith, lit<}
use Rattle.std.specs.Prelude.{filter, is_none, nat_le, unwrap_or}
use Rattle.std.specs.List.{list_any}
use Rattle.std.specs.Str.{bytes_eq}
use Rattle.std.proofs.lemmas.Bool.{leb-false, ltb-true, not-false, true≢false}
use Rattle.std.proofs.lemmas.List.Elements.{All-filter, All-map}
use Rattle.flex_model.specs.declared.fault.FaultCode.TheVariants as code
use Rattle.flex_model.specs.declared.fault.InputFile.TheVariants.{Frequencies}
use Rattle.flex_model.specs.SoundFeed.{IsSoundRepeat}
use Rattle.field_text.specs.Grammars.{count, number, time}
use Rattle.feed_meaning.specs.FeedLinks.{Tables, is_in}
use Rattle.feed_meaning.specs.FeedRules.{is_positive_count}
use Rattle.feed_meaning.specs.FeedValue.{records_of_trip, repeat_of}
use Rattle.feed_meaning.specs.Rules.{Values, is_no, stand}
use Rattle.feed_meaning.proofs.FieldBounds.{count_is, seconds_low}
use Rattle.feed_meaning.proofs.Kept.{is_kept}
use Rattle.feed_meaning.proofs.KeptFeeds.{KeepsFeedRules}

-- two times that are there, of which the first comes before the second
in_order : (a b : Option ℕ) → is_none a ≡ false → is_none b ≡ false
    → stand (λ start end. nat_le end start) a b ≡ false → unwrap_or a 0 < unwrap_or b 0
in_order None b there there' kept = absurd (true≢false there)
in_order (Some m) None there there' kept = absurd (true≢false there')
in_order (Some m) (Some n) there there' kept = leb-false n m kept

-- the number of a positive count
positive : (greatest : ℕ) (text : List ℕ) (o : Option ℕ) → count greatest text ≡ o
    → not (stand nat_lt (Some 0) o) ≡ false → (0 < number text) × (number text ≤ greatest)
positive greatest text None is kept = absurd (true≢false kept)
positive greatest text (Some n) is kept =
    let some : 0 < n = ltb-true 0 n (not-false (nat_lt 0 n) kept) in
    let bound = count_is greatest text n is in
    let low = bound.0 in
    let same = bound.1 in
    (omega (arith, some, same), omega (arith, low, same))

-- nothing is kept of a list exactly where nothing passes
none-kept : {X : Type 0} (p : X → Bool) (xs : List X) → (list_any p xs ≡ false) ↔ (filter p xs ≡ [])
none-kept p [] = (λ e. refl, λ e. refl)
none-kept p (x ∷ xs) = by (p x) (none-kept p xs)
  where
    by : (b : Bool) → ((list_any p xs ≡ false) ↔ (filter p xs ≡ []))
        → ((b || list_any p xs) ≡ false) ↔ (cond b (x ∷ filter p xs) (filter p xs) ≡ [])
    by true rest = (λ e. absurd (true≢false e), λ e. cc)
    by false rest = rest

mapped-none : {X Y : Type 0} (f : X → Y) (xs : List X) → (xs ≡ []) ↔ (map f xs ≡ [])
mapped-none f [] = (λ e. refl, λ e. refl)
mapped-none f (x ∷ xs) = (λ e. cc, λ e. cc)

-- a trip isn't frequent exactly where it has no repeats
pub frequent_is : (tables : Tables) (trip : List ℕ)
    → (is_in tables Frequencies "trip_id" trip ≡ false) ↔ (map repeat_of (records_of_trip tables Frequencies trip) ≡ [])
frequent_is tables trip =
    let kept = none-kept (λ s. bytes_eq trip (s "trip_id")) (tables Frequencies) in
    let mapped = mapped-none repeat_of (records_of_trip tables Frequencies trip) in
    (λ e. mapped.0 (kept.0 e), λ e. kept.1 (mapped.1 e))

module _ (tables : Tables) (kept : KeepsFeedRules tables) where
  repeat-sound : (i : ℕ) (d : Values) → i < length (tables Frequencies) → IsSoundRepeat (repeat_of (get_or (tables Frequencies) i d))
  repeat-sound i d low =
      let r = get_or (tables Frequencies) i d in
      let alone = kept.frequencies.alone.at i d low in
      let headway = positive 86400 (r "headway_secs") (count 86400 (r "headway_secs")) refl
      (is_kept code.BadNumber (not (is_positive_count 86400 (r "headway_secs"))) (alone 4 None (lit< tt))) in
      record {
        in_order = in_order (time (r "start_time")) (time (r "end_time"))
            (is_kept code.BadTime (is_no time (r "start_time")) (alone 1 None (lit< tt)))
            (is_kept code.BadTime (is_no time (r "end_time")) (alone 2 None (lit< tt)))
            (is_kept code.TimeOrder (stand (λ start end. nat_le end start) (time (r "start_time")) (time (r "end_time"))) (alone 3 None (lit< tt)));
        end = seconds_low (r "end_time");
        some_headway = headway.0;
        headway = headway.1;
      }

  pub repeats_sound : (trip : List ℕ) → All IsSoundRepeat (map repeat_of (records_of_trip tables Frequencies trip))
  repeats_sound trip =
      All-map IsSoundRepeat repeat_of (records_of_trip tables Frequencies trip)
      (All-filter (λ s. bytes_eq trip (s "trip_id")) (λ r. IsSoundRepeat (repeat_of r)) (tables Frequencies) repeat-sound)
