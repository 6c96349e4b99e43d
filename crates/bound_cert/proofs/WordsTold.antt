-- What the words of a line tell, as a pattern of words shows them.
use Rattle.std.proofs.Common.{Bor, ◌≡◌, ℕ, ◌-◌, ◌<◌, ◌≤◌, Bool, true, false, not, cond, ℤ, List, [], ◌∷◌, length, map, get_or, slice_get, take, drop, Option, Some, None, refl, sym, ap, ◌∙◌, arith}
use Rattle.std.specs.Prelude.{codes}
use Rattle.std.specs.Option.{option_map_or}
use Rattle.std.specs.Str.{bytes_eq}
use Rattle.std.proofs.lemmas.List.{take_all}
use Rattle.std.proofs.lemmas.Option.{slice_get-get_or}
use Rattle.bound_cert.specs.declared.ride_values.Stretch.{Stretch}
use Rattle.bound_cert.specs.LineWords.{◌>>=◌, is_frequent, label_from, label_in, ride_along, ride_in, row_in, rows_of, start_in, stretch_from, triple_from, triple_in, walk_in}
use Rattle.field_text.specs.Grammars.{date, moment}
use Rattle.flex_model.specs.declared.feed.Feed.{Feed}
use Rattle.flex_model.specs.declared.moment.Deadline.{Deadline}
use Rattle.flex_model.specs.declared.place.Place.{Place}
use Rattle.flex_model.specs.declared.ride.Ride.{Ride}
use Rattle.flex_model.specs.declared.times.Times.{Times}
use Rattle.flex_model.specs.declared.trip.Trip.{Trip}
use Rattle.flex_model.specs.SoundFeed.{IsSoundFeed, IsSoundTrip}
use Rattle.flex_model.proofs.Found.{All-at}
use Rattle.query_io.specs.Lines.{deadline_in, number_in, place_in, trip_in}

abbrev Words : Type 0
Words = List (Bor (List ℕ))

abbrev pub texts : Words → List (List ℕ)
texts ws = map (λ w. w.now) ws

-- the test of a line's kind was passed
passed : (w text : List ℕ) → false ≡ not (bytes_eq w text) → bytes_eq w text ≡ true
passed w text h = by (bytes_eq w text) h
  where
    by : (b : Bool) → false ≡ not b → b ≡ true
    by true h = refl
    by false h = h

failed_kind : (w text : List ℕ) → true ≡ not (bytes_eq w text) → bytes_eq w text ≡ false
failed_kind w text h = by (bytes_eq w text) h
  where
    by : (b : Bool) → true ≡ not b → b ≡ false
    by true h = h
    by false h = refl

all_left : (ws : Words) (n : ℕ) → length ws ≤ n → texts (take n ws) ≡ texts ws
all_left ws n low = ap texts (take_all n ws low)

-- ---- journeys

pub triple_same : (d d' : Option Deadline) (a a' : Option ℤ) (n n' w w' : Option ℕ) → d ≡ d' → a ≡ a' → n ≡ n' → w ≡ w' → triple_from d a n w ≡ triple_from d' a' n' w'
triple_same d d' a a' n n' w w' hd ha hn hw =
    ap (λ x. triple_from x a n w) hd ∙ ap (λ x. triple_from d' x n w) ha ∙ ap (λ x. triple_from d' a' x w) hn ∙ ap (λ x. triple_from d' a' n' x) hw

pub short_triple : (walking : Bool) (ws : Words) → length ws < 4 → None ≡ triple_in walking (texts ws)
unfolding triple_in
short_triple walking [] low = refl
short_triple walking (k ∷ []) low = refl
short_triple walking (k ∷ d ∷ []) low = refl
short_triple walking (k ∷ d ∷ a ∷ []) low = refl
short_triple walking (k ∷ d ∷ a ∷ n ∷ last) low = absurd (omega (arith, low))

pub triple_told : (walking : Bool) (ws : Words) (e : Bor (List ℕ)) → 4 ≤ length ws → false ≡ not (bytes_eq (get_or ws 0 e).now (codes "journey"))
    → triple_in walking (texts ws) ≡ triple_from (deadline_in (get_or ws 1 e).now) (moment 1980 2209 (get_or ws 2 e).now) (number_in 7 (get_or ws 3 e).now) (walk_in walking (texts (take (length ws - 4) (drop 4 ws))))
unfolding triple_in
triple_told walking [] e low kind = absurd (omega (arith, low))
triple_told walking (k ∷ []) e low kind = absurd (omega (arith, low))
triple_told walking (k ∷ d ∷ []) e low kind = absurd (omega (arith, low))
triple_told walking (k ∷ d ∷ a ∷ []) e low kind = absurd (omega (arith, low))
triple_told walking (k ∷ d ∷ a ∷ n ∷ last) e low kind =
    let told = λ (z : List (List ℕ)). triple_from (deadline_in d.now) (moment 1980 2209 a.now) (number_in 7 n.now) (walk_in walking z) in
    ap (λ b. cond b (told (texts last)) None) (passed k.now (codes "journey") kind)
    ∙ ap told (sym (all_left last (length (k ∷ d ∷ a ∷ n ∷ last) - 4) (omega arith)))

-- ---- labels

pub label_same : (p p' : Option Place) (d d' : Option Deadline) (a a' : Option ℤ) (w w' : Option ℕ) → p ≡ p' → d ≡ d' → a ≡ a' → w ≡ w' → label_from p d a w ≡ label_from p' d' a' w'
label_same p p' d d' a a' w w' hp hd ha hw =
    ap (λ x. label_from x d a w) hp ∙ ap (λ x. label_from p' x a w) hd ∙ ap (λ x. label_from p' d' x w) ha ∙ ap (λ x. label_from p' d' a' x) hw

module _ (feed : Feed) (times : Times) where
  pub short_label : (walking : Bool) (ws : Words) → length ws < 4 → None ≡ label_in feed times walking (texts ws)
  unfolding label_in
  short_label walking [] low = refl
  short_label walking (k ∷ []) low = refl
  short_label walking (k ∷ p ∷ []) low = refl
  short_label walking (k ∷ p ∷ d ∷ []) low = refl
  short_label walking (k ∷ p ∷ d ∷ a ∷ last) low = absurd (omega (arith, low))

  pub label_told : (walking : Bool) (ws : Words) (e : Bor (List ℕ)) → 4 ≤ length ws → false ≡ not (bytes_eq (get_or ws 0 e).now (codes "label"))
      → label_in feed times walking (texts ws) ≡ label_from (place_in feed times (get_or ws 1 e).now) (deadline_in (get_or ws 2 e).now) (moment 1980 2209 (get_or ws 3 e).now) (walk_in walking (texts (take (length ws - 4) (drop 4 ws))))
  unfolding label_in
  label_told walking [] e low kind = absurd (omega (arith, low))
  label_told walking (k ∷ []) e low kind = absurd (omega (arith, low))
  label_told walking (k ∷ p ∷ []) e low kind = absurd (omega (arith, low))
  label_told walking (k ∷ p ∷ d ∷ []) e low kind = absurd (omega (arith, low))
  label_told walking (k ∷ p ∷ d ∷ a ∷ last) e low kind =
      let told = λ (z : List (List ℕ)). label_from (place_in feed times p.now) (deadline_in d.now) (moment 1980 2209 a.now) (walk_in walking z) in
      ap (λ b. cond b (told (texts last)) None) (passed k.now (codes "label") kind)
      ∙ ap told (sym (all_left last (length (k ∷ p ∷ d ∷ a ∷ last) - 4) (omega arith)))

  -- ---- rides

  pub short_ride : (ws : Words) → length ws < 9 → None ≡ ride_in feed times (texts ws)
  unfolding ride_in
  short_ride [] low = refl
  short_ride (k ∷ []) low = refl
  short_ride (k ∷ t ∷ []) low = refl
  short_ride (k ∷ t ∷ d ∷ []) low = refl
  short_ride (k ∷ t ∷ d ∷ f ∷ []) low = refl
  short_ride (k ∷ t ∷ d ∷ f ∷ o ∷ []) low = refl
  short_ride (k ∷ t ∷ d ∷ f ∷ o ∷ b ∷ []) low = refl
  short_ride (k ∷ t ∷ d ∷ f ∷ o ∷ b ∷ a ∷ []) low = refl
  short_ride (k ∷ t ∷ d ∷ f ∷ o ∷ b ∷ a ∷ l ∷ []) low = refl
  short_ride (k ∷ t ∷ d ∷ f ∷ o ∷ b ∷ a ∷ l ∷ r ∷ last) low = absurd (omega (arith, low))

  -- a line of another kind is none of a ride
  pub other_ride : (ws : Words) (e : Bor (List ℕ)) → 9 ≤ length ws → true ≡ not (bytes_eq (get_or ws 0 e).now (codes "ride")) → None ≡ ride_in feed times (texts ws)
  unfolding ride_in
  other_ride [] e low kind = absurd (omega (arith, low))
  other_ride (k ∷ []) e low kind = absurd (omega (arith, low))
  other_ride (k ∷ t ∷ []) e low kind = absurd (omega (arith, low))
  other_ride (k ∷ t ∷ d ∷ []) e low kind = absurd (omega (arith, low))
  other_ride (k ∷ t ∷ d ∷ f ∷ []) e low kind = absurd (omega (arith, low))
  other_ride (k ∷ t ∷ d ∷ f ∷ o ∷ []) e low kind = absurd (omega (arith, low))
  other_ride (k ∷ t ∷ d ∷ f ∷ o ∷ b ∷ []) e low kind = absurd (omega (arith, low))
  other_ride (k ∷ t ∷ d ∷ f ∷ o ∷ b ∷ a ∷ []) e low kind = absurd (omega (arith, low))
  other_ride (k ∷ t ∷ d ∷ f ∷ o ∷ b ∷ a ∷ l ∷ []) e low kind = absurd (omega (arith, low))
  other_ride (k ∷ t ∷ d ∷ f ∷ o ∷ b ∷ a ∷ l ∷ r ∷ last) e low kind =
      let told = λ (x : ℕ). ride_along x (date d.now) (row_in (rows_of feed x) f.now) (row_in (rows_of feed x) o.now)
      (stretch_from (place_in feed times b.now) (place_in feed times a.now) (moment 1980 2209 l.now) (moment 1980 2209 r.now)) (start_in (is_frequent feed x) (texts last)) in
      ap (λ c. cond c (trip_in feed t.now >>= told) None) (sym (failed_kind k.now (codes "ride") kind))

  -- what further words tell of a ride on a trip
  abbrev pub on_trip : Words → Bor (List ℕ) → ℕ → Option Ride
  on_trip ws e t =
      ride_along t (date (get_or ws 2 e).now) (row_in (rows_of feed t) (get_or ws 3 e).now) (row_in (rows_of feed t) (get_or ws 4 e).now)
      (stretch_from (place_in feed times (get_or ws 5 e).now) (place_in feed times (get_or ws 6 e).now) (moment 1980 2209 (get_or ws 7 e).now) (moment 1980 2209 (get_or ws 8 e).now))
      (start_in (is_frequent feed t) (texts (take (length ws - 9) (drop 9 ws))))

  pub ride_told : (ws : Words) (e : Bor (List ℕ)) → 9 ≤ length ws → false ≡ not (bytes_eq (get_or ws 0 e).now (codes "ride"))
      → ride_in feed times (texts ws) ≡ (trip_in feed (get_or ws 1 e).now >>= on_trip ws e)
  unfolding ride_in
  ride_told [] e low kind = absurd (omega (arith, low))
  ride_told (k ∷ []) e low kind = absurd (omega (arith, low))
  ride_told (k ∷ t ∷ []) e low kind = absurd (omega (arith, low))
  ride_told (k ∷ t ∷ d ∷ []) e low kind = absurd (omega (arith, low))
  ride_told (k ∷ t ∷ d ∷ f ∷ []) e low kind = absurd (omega (arith, low))
  ride_told (k ∷ t ∷ d ∷ f ∷ o ∷ []) e low kind = absurd (omega (arith, low))
  ride_told (k ∷ t ∷ d ∷ f ∷ o ∷ b ∷ []) e low kind = absurd (omega (arith, low))
  ride_told (k ∷ t ∷ d ∷ f ∷ o ∷ b ∷ a ∷ []) e low kind = absurd (omega (arith, low))
  ride_told (k ∷ t ∷ d ∷ f ∷ o ∷ b ∷ a ∷ l ∷ []) e low kind = absurd (omega (arith, low))
  ride_told (k ∷ t ∷ d ∷ f ∷ o ∷ b ∷ a ∷ l ∷ r ∷ last) e low kind =
      let told = λ (z : List (List ℕ)) (x : ℕ). ride_along x (date d.now) (row_in (rows_of feed x) f.now) (row_in (rows_of feed x) o.now)
      (stretch_from (place_in feed times b.now) (place_in feed times a.now) (moment 1980 2209 l.now) (moment 1980 2209 r.now)) (start_in (is_frequent feed x) z) in
      ap (λ c. cond c (trip_in feed t.now >>= told (texts last)) None) (passed k.now (codes "ride") kind)
      ∙ ap (λ z. trip_in feed t.now >>= told z) (sym (all_left last (length (k ∷ t ∷ d ∷ f ∷ o ∷ b ∷ a ∷ l ∷ r ∷ last) - 9) (omega arith)))

  -- ---- the trip of a ride

  pub ride_same : (t : ℕ) (d d' : Option ℤ) (f f' o o' : Option ℕ) (x x' : Option Stretch) (s s' : Option (Option ℕ)) → d ≡ d' → f ≡ f' → o ≡ o' → x ≡ x' → s ≡ s'
      → ride_along t d f o x s ≡ ride_along t d' f' o' x' s'
  ride_same t d d' f f' o o' x x' s s' hd hf ho hx hs =
      ap (λ z. ride_along t z f o x s) hd ∙ ap (λ z. ride_along t d' z o x s) hf ∙ ap (λ z. ride_along t d' f' z x s) ho
      ∙ ap (λ z. ride_along t d' f' o' z s) hx ∙ ap (λ z. ride_along t d' f' o' x' z) hs

  pub stretch_same : (b b' a a' : Option Place) (m m' n n' : Option ℤ) → b ≡ b' → a ≡ a' → m ≡ m' → n ≡ n' → stretch_from b a m n ≡ stretch_from b' a' m' n'
  stretch_same b b' a a' m m' n n' hb ha hm hn =
      ap (λ z. stretch_from z a m n) hb ∙ ap (λ z. stretch_from b' z m n) ha ∙ ap (λ z. stretch_from b' a' z n) hm ∙ ap (λ z. stretch_from b' a' m' z) hn

  -- the trip that a word names
  pub record IsTripOf (k : ℕ) (trip : Trip) : Type 0 where
    pub sound : IsSoundTrip feed trip
    pub rows : rows_of feed k ≡ trip.rows
    pub frequent : is_frequent feed k ≡ trip.frequent

  pub trip_found : IsSoundFeed feed → (k : ℕ) (trips : List Trip) (trip : Trip) → k < length feed.trips → trips ≡ feed.trips → trip ≡ get_or trips k trip → IsTripOf k trip
  trip_found sound k trips trip low same is =
      let there : slice_get feed.trips k ≡ Some trip = slice_get-get_or feed.trips k trip low ∙ ap (λ (x : Trip). Some x) (sym (is ∙ ap (λ ts. get_or ts k trip) same)) in
      record {
        sound = All-at (IsSoundTrip feed) feed.trips k trip sound.each_trip there;
        rows = ap (λ o. option_map_or (λ t. t.rows) o []) there;
        frequent = ap (λ o. option_map_or (λ t. t.frequent) o false) there;
      }
