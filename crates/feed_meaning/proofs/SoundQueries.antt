-- Beside a sound feed a query file without faults holds sound queries.
use Rattle.std.proofs.Common.{◌≡◌, ℕ, ◌+◌, ◌*◌, ◌<◌, ◌≤◌, Bool, true, false, not, ◌&&◌, ◌||◌, List, [], ◌∷◌, All, Option, None, Some, map, take, length, get_or, nat_lt, ℤ, pos, ◌+ℤ◌, ◌*ℤ◌, ◌≤ℤ◌, ◌<ℤ◌, refl, subst, arith, lit<}
use Rattle.std.specs.Prelude.{if◌then◌else◌, codes, is_none, nat_le, slice_range, unwrap_or}
use Rattle.std.specs.Str.{bytes_eq}
use Rattle.std.proofs.lemmas.Bool.{and_parts, leb-true, ltb-true, not-false, true≢false}
use Rattle.std.proofs.lemmas.List.{get_or-map, length-map}
use Rattle.std.proofs.lemmas.List.Elements.{All-map}
use Rattle.jiff_core.specs.Calendar.{days_from_civil}
use Rattle.jiff_core.proofs.SignedLemmas.{signed_arith}
use Rattle.flex_model.specs.declared.fault.FaultCode.TheVariants as code
use Rattle.flex_model.specs.declared.fault.InputFile.TheVariants.{Queries}
use Rattle.flex_model.specs.declared.feed.Feed.{Feed}
use Rattle.flex_model.specs.declared.place.Place.TheVariants as place
use Rattle.flex_model.specs.declared.times.Times.{Times}
use Rattle.flex_model.specs.SoundFeed.{IsSoundFeed}
use Rattle.flex_model.specs.SoundQuery.{IsQueryMoment, IsQueryPlace, IsSoundQuery}
use Rattle.field_text.specs.Grammars.{count, is_civil, is_shaped, moment, number, some_if}
use Rattle.field_text.proofs.DateLemmas.{civil_bounds, civil_from_test}
use Rattle.field_text.proofs.OnLiterals.{field_text_on_literals}
use Rattle.feed_meaning.specs.FeedRules.{is_positive_count}
use Rattle.feed_meaning.specs.FeedValue.{first_index}
use Rattle.feed_meaning.specs.QueryFaults.{is_point, place_rule, queries_schema, query_contents, query_rules}
use Rattle.feed_meaning.specs.Rules.{Values, is_empty, is_no, rule, stand}
use Rattle.feed_meaning.specs.Soundness.{AcceptedQueriesAreSound}
use Rattle.feed_meaning.specs.Tables.{Entry}
use Rattle.feed_meaning.specs.TimesFaults.{is_boarding_stop, is_stop}
use Rattle.feed_meaning.specs.TimesValue.{moment_in, place_named, query_of}
use Rattle.feed_meaning.specs.Folder.{entries}
use Rattle.feed_meaning.proofs.FieldBounds.{count_is, tested}
use Rattle.feed_meaning.proofs.Kept.{ObeysRules, file_keeps, is_kept}
use Rattle.feed_meaning.proofs.NamedLists.{filled_is_given, given_is}
use Rattle.feed_meaning.proofs.Places.{place_passes}
use Rattle.feed_meaning.proofs.PlacesNamed.{boarding_stop}
use Rattle.feed_meaning.proofs.SoundNotices.{first_kept}
use Rattle.feed_meaning.proofs.SoundTimesFolders.{count_low}

-- ---- moments

first_of_1990 : days_from_civil (pos 1990) 1 1 ≡ pos 7305
unfolding field_text_on_literals
first_of_1990 = refl

first_of_2200 : days_from_civil (pos 2200) 1 1 ≡ pos 84006
unfolding field_text_on_literals
first_of_2200 = refl

moment-parts : (shape : Bool) (year month day hours minutes seconds : ℕ) (m : ℤ)
    → some_if (shape && is_civil 1990 2199 year month day && nat_le hours 23 && nat_le minutes 59 && nat_le seconds 59)
    ((pos 86400 *ℤ days_from_civil (pos year) month day) +ℤ pos (3600 * hours + 60 * minutes + seconds)) ≡ Some m → IsQueryMoment m
moment-parts shape year month day hours minutes seconds m e =
    let value = (pos 86400 *ℤ days_from_civil (pos year) month day) +ℤ pos (3600 * hours + 60 * minutes + seconds) in
    let t = tested (shape && is_civil 1990 2199 year month day && nat_le hours 23 && nat_le minutes 59 && nat_le seconds 59) value m e in
    let last = and_parts (shape && is_civil 1990 2199 year month day && nat_le hours 23 && nat_le minutes 59) (nat_le seconds 59) t.0 in
    let middle = and_parts (shape && is_civil 1990 2199 year month day && nat_le hours 23) (nat_le minutes 59) last.0 in
    let first = and_parts (shape && is_civil 1990 2199 year month day) (nat_le hours 23) middle.0 in
    let civil = and_parts shape (is_civil 1990 2199 year month day) first.0 in
    let bounds = civil_bounds 1990 2199 year month day (omega arith) (civil_from_test 1990 2199 year month day (omega arith) civil.1) in
    let low : pos 7305 ≤ℤ days_from_civil (pos year) month day = subst (λ d. d ≤ℤ days_from_civil (pos year) month day) first_of_1990 bounds.0 in
    let high : days_from_civil (pos year) month day <ℤ pos 84006 = subst (λ d. days_from_civil (pos year) month day <ℤ d) first_of_2200 bounds.1 in
    let h : hours ≤ 23 = leb-true hours 23 first.1 in
    let n : minutes ≤ 59 = leb-true minutes 59 middle.1 in
    let s : seconds ≤ 59 = leb-true seconds 59 last.1 in
    let second : 3600 * hours + 60 * minutes + seconds < 86400 = omega arith in
    subst IsQueryMoment t.1 (record { low = omega (arith, signed_arith, low); high = omega (arith, signed_arith, high, second) })

moment-within : (text : List ℕ) (m : ℤ) → moment 1990 2199 text ≡ Some m → IsQueryMoment m
moment-within text m e =
    moment-parts (is_shaped (codes "0000-00-00T00:00:00Z") text) (number (slice_range text 0 4)) (number (slice_range text 5 7)) (number (slice_range text 8 10))
    (number (slice_range text 11 13)) (number (slice_range text 14 16)) (number (slice_range text 17 19)) m e

some-moment : (text : List ℕ) (o : Option ℤ) → moment 1990 2199 text ≡ o → is_none o ≡ false → IsQueryMoment (unwrap_or o (pos 0))
some-moment text None is kept = cc
some-moment text (Some m) is kept = moment-within text m is

moment-kept : (text : List ℕ) → is_no (moment 1990 2199) text ≡ false → IsQueryMoment (moment_in text)
moment-kept text kept = some-moment text (moment 1990 2199 text) refl kept

-- ---- counts

positive : (greatest : ℕ) (text : List ℕ) (o : Option ℕ) → count greatest text ≡ o → not (stand nat_lt (Some 0) o) ≡ false → (0 < number text) × (number text ≤ greatest)
positive greatest text None is kept = absurd (true≢false kept)
positive greatest text (Some n) is kept =
    let c = count_is greatest text n is in
    let low = c.0 in
    let same = c.1 in
    let some : 0 < n = ltb-true 0 n (not-false (nat_lt 0 n) kept) in
    (omega (arith, some, same), omega (arith, low, same))

-- ---- places

module _ (feed : Feed) (times : Times) (sound : IsSoundFeed feed) where
  place-kept : (text : List ℕ) → place_rule feed times text ≡ None → IsQueryPlace feed times (place_named feed times.points text)
  place-kept text kept =
      let known = first_kept (rule code.EmptyField (is_empty text))
      (rule code.UnknownId (not (is_stop feed text || is_point times text)) ∷ rule code.BadStopKind (is_stop feed text && not (is_boarding_stop feed text)) ∷ []) kept in
      let kind = first_kept (rule code.UnknownId (not (is_stop feed text || is_point times text))) (rule code.BadStopKind (is_stop feed text && not (is_boarding_stop feed text)) ∷ []) known.1 in
      let here : (is_stop feed text || is_point times text) ≡ true = not-false (is_stop feed text || is_point times text) (is_kept code.UnknownId (not (is_stop feed text || is_point times text)) kind.0) in
      let boards : (is_stop feed text && not (is_boarding_stop feed text)) ≡ false =
      is_kept code.BadStopKind (is_stop feed text && not (is_boarding_stop feed text)) (first_kept (rule code.BadStopKind (is_stop feed text && not (is_boarding_stop feed text))) [] kind.1).0 in
      by (is_stop feed text) refl here boards
    where
      by : (b : Bool) → is_stop feed text ≡ b → (b || is_point times text) ≡ true → (b && not (is_boarding_stop feed text)) ≡ false
          → IsQueryPlace feed times (if b then place.Stop (first_index (λ stop. bytes_eq text stop.id) feed.stops) else place.Point (first_index (λ point. bytes_eq text point.id) times.points))
      by true is here boards = (boarding_stop feed sound text (not-false (is_boarding_stop feed text) boards)).1
      by false is here boards = (place_passes (λ point. bytes_eq text point.id) times.points here).0

  query-sound : (earlier : List Values) (r : Values) → ((k : ℕ) → k < 9 → get_or (query_rules feed times earlier r) k None ≡ None) → IsSoundQuery feed times (query_of feed times r)
  query-sound earlier r kept =
      let horizon = positive 2880 (r "horizon") (count 2880 (r "horizon")) refl (is_kept code.BadNumber (not (is_positive_count 2880 (r "horizon"))) (kept 7 (lit< tt))) in
      record {
        id = given_is (r "query_id") (filled_is_given (r "query_id") (is_kept code.EmptyField (is_empty (r "query_id")) (kept 0 (lit< tt))));
        origin = place-kept (r "origin") (kept 2 (lit< tt));
        destination = place-kept (r "destination") (kept 3 (lit< tt));
        depart = moment-kept (r "depart") (is_kept code.BadMoment (is_no (moment 1990 2199) (r "depart")) (kept 4 (lit< tt)));
        now = moment-kept (r "now") (is_kept code.BadMoment (is_no (moment 1990 2199) (r "now")) (kept 5 (lit< tt)));
        transfers = count_low 7 (r "transfers") (is_kept code.BadNumber (is_no (count 7) (r "transfers")) (kept 6 (lit< tt)));
        some_time = horizon.0;
        horizon = horizon.1;
      }

  queries-sound : (es : List Entry) → ObeysRules (query_rules feed times) (map (λ e. e.values) es) → All (λ (e : Entry). IsSoundQuery feed times (query_of feed times e.values)) es
  queries-sound es kept i d low =
      let rs = map (λ (e : Entry). e.values) es in
      let at_i : i < length rs = omega (arith, low, length-map es (λ (e : Entry). e.values)) in
      let same : get_or rs i d.values ≡ (get_or es i d).values = get_or-map (λ (e : Entry). e.values) es i d d.values low in
      subst (λ v. IsSoundQuery feed times (query_of feed times v)) same
      (query-sound (take i rs) (get_or rs i d.values) (λ k small. kept.at i d.values at_i k None small))

pub accepted_queries : AcceptedQueriesAreSound
accepted_queries feed times raw sound none =
    let table = file_keeps (query_contents feed times) (λ file. raw) Queries (queries_schema feed times) (λ bytes. refl) none in
    let es = entries (λ file. raw) Queries in
    All-map (IsSoundQuery feed times) (λ (e : Entry). query_of feed times e.values) es (queries-sound feed times sound es table.rules)
