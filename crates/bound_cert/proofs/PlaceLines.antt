-- The lines of labels and rides, which name places and trips: what is read is what is printed, and what is printed is read.
use Rattle.std.proofs.Common.{◌≡◌, ◌≢◌, ℕ, ◌^◌, ◌<◌, ◌≤◌, Bool, true, false, cond, eqb, ltb, ℤ, pos, List, [], ◌∷◌, length, map, get_or, slice_get, All, AllPairs, IsUtf8, Option, Some, None, refl, sym, ap, subst, ◌∙◌, arith, lit<}
use Rattle.std.specs.Prelude.{codes, decimal, position}
use Rattle.std.specs.List.{list_all, position_or_len}
use Rattle.std.specs.Option.{option_map, option_map_or}
use Rattle.std.specs.Str.{bytes_eq}
use Rattle.std.proofs.lemmas.Bool.{eq-eqb, eqb-true, false_from_ne_true, lt-ltb}
use Rattle.std.proofs.lemmas.List.Quantifiers.{position-Some}
use Rattle.std.proofs.lemmas.List.Sums.{position_or_len_is}
use Rattle.std.proofs.lemmas.Option.{slice_get-get_or, slice_get-map}
use Rattle.bound_cert.specs.declared.cert.CertLabel.{CertLabel}
use Rattle.bound_cert.specs.LineWords.{◌>>=◌, is_frequent, label_from, label_in, ride_in, ride_along, row_in, rows_of, start_in, stretch_from, walk_in}
use Rattle.bound_cert.specs.Laws.{AreHeld}
use Rattle.bound_cert.proofs.LineReaders.{IsLine, is_graphic}
use Rattle.bound_cert.proofs.Words.{IsWord, day_word, deadline_word, item_complete, item_none, item_sound, moment_word, none_some, number_word, some_is, then_some}
use Rattle.field_text.specs.Grammars.{date, escape, moment}
use Rattle.field_text.specs.Texts.{IsPrintableDay, IsPrintableMoment, date_text, moment_text}
use Rattle.field_text.proofs.WordLemmas.{escape-graphic}
use Rattle.flex_model.specs.declared.feed.Feed.{Feed}
use Rattle.flex_model.specs.declared.moment.Deadline.{Deadline}
use Rattle.flex_model.specs.declared.place.Place.{Place}
use Rattle.flex_model.specs.declared.place.Place.TheVariants as place
use Rattle.flex_model.specs.declared.place.Point.{Point}
use Rattle.flex_model.specs.declared.place.Position.{Position}
use Rattle.flex_model.specs.declared.place.Stop.{Stop}
use Rattle.flex_model.specs.declared.ride.Ride.{Ride}
use Rattle.flex_model.specs.declared.times.Times.{Times}
use Rattle.flex_model.specs.declared.trip.Row.{Row}
use Rattle.flex_model.specs.declared.trip.Spot.TheVariants as spot
use Rattle.flex_model.specs.declared.trip.Timing.TheVariants as timing
use Rattle.flex_model.specs.declared.trip.Trip.{Trip}
use Rattle.flex_model.specs.declared.trip.Way.TheVariants as way
use Rattle.flex_model.specs.SoundFeed.{IsSoundFeed, IsSoundTrip}
use Rattle.flex_model.specs.SoundTimes.{AreSoundTimes}
use Rattle.flex_model.proofs.Found.{All-at}
use Rattle.query_io.specs.AnswerText.{deadline_text, place_text, start_words, words_on_trip}
use Rattle.query_io.specs.Lines.{deadline_in, number_in, or_else, place_in, trip_in}
use Rattle.query_io.specs.Printable.{IsPrintableDeadline, IsPrintablePlace}
use Rattle.bound_cert.proofs.LineLaws.{IsStart, IsWalk, bind_some, is_text, start_are, start_complete, start_few, start_tail, walk_are, walk_few, walk_tail, walk_words}

-- ---- places and trips

pub id_given : {X : Type 0} (id : X → List ℕ) (items : List X) (k : ℕ) (x : X) → All (λ name. name ≢ []) (map id items) → slice_get items k ≡ Some x → id x ≢ []
id_given id items k x all e = All-at (λ name. name ≢ []) (map id items) k (id x) all (slice_get-map id items k ∙ ap (option_map id) e)

abbrev pub sequence_at : List Row → ℕ → ℕ
sequence_at rows r = option_map_or (λ row. row.sequence) (slice_get rows r) 0

abbrev pub no_position : Position
no_position = record { lon = pos 0; lat = pos 0 }

abbrev pub no_stop : Stop
no_stop = record { id = []; at = no_position; boards = false }

abbrev pub no_point : Point
no_point = record { id = []; at = no_position }

abbrev pub no_trip : Trip
no_trip = record { id = []; service = 0; frequent = false; repeats = []; rows = [] }

module _ (feed : Feed) (times : Times) (sound : IsSoundFeed feed) (sound_times : AreSoundTimes feed times) (held : AreHeld feed times) where
  place_sound : (w : List ℕ) (p : Place) → place_in feed times w ≡ Some p → IsPrintablePlace feed times p × (w ≡ place_text feed times p)
  place_sound w p e = by (position (λ stop. bytes_eq w (escape stop.id)) feed.stops) refl e
    where
      named : (id : List ℕ) (o : Option (List ℕ)) → o ≡ Some id → option_map_or (λ x. x) o [] ≡ id
      named id o is = ap (λ q. option_map_or (λ x. x) q []) is

      point : (o : Option ℕ) → position (λ point. bytes_eq w (escape point.id)) times.points ≡ o → option_map place.Point o ≡ Some p → IsPrintablePlace feed times p × (w ≡ place_text feed times p)
      point None is e = absurd (none_some p e)
      point (Some k) is e =
          let found = item_sound (λ point. point.id) times.points no_point w k is in
          subst (λ (q : Place). IsPrintablePlace feed times q × (w ≡ place_text feed times q)) (some_is (place.Point k) p e) (
            (found.0, found.1, id_given (λ point. point.id) times.points k found.0 sound_times.ids.given found.1),
            found.2 ∙ ap (λ o. escape (option_map_or (λ point. point.id) o [])) (sym found.1),
          )

      by : (o : Option ℕ) → position (λ stop. bytes_eq w (escape stop.id)) feed.stops ≡ o
          → or_else (option_map place.Stop o) (option_map place.Point (position (λ point. bytes_eq w (escape point.id)) times.points)) ≡ Some p
          → IsPrintablePlace feed times p × (w ≡ place_text feed times p)
      by None is e = point (position (λ point. bytes_eq w (escape point.id)) times.points) refl e
      by (Some k) is e =
          let found = item_sound (λ stop. stop.id) feed.stops no_stop w k is in
          subst (λ (q : Place). IsPrintablePlace feed times q × (w ≡ place_text feed times q)) (some_is (place.Stop k) p e) (
            (found.0, found.1, id_given (λ stop. stop.id) feed.stops k found.0 sound.stops.ids.given found.1),
            found.2 ∙ ap (λ o. escape (option_map_or (λ stop. stop.id) o [])) (sym found.1),
          )

  place_complete : (p : Place) → IsPrintablePlace feed times p → place_in feed times (place_text feed times p) ≡ Some p
  place_complete (place.Stop s) printable =
      let is = printable.1 in
      ap (λ o. place_in feed times (escape (option_map_or (λ stop. stop.id) o []))) is
      ∙ ap (λ o. or_else (option_map place.Stop o) (option_map place.Point (position (λ point. bytes_eq (escape printable.0.id) (escape point.id)) times.points)))
      (item_complete (λ stop. stop.id) feed.stops no_stop sound.stops.ids.distinct held.stops s printable.0 is)
  place_complete (place.Point k) printable =
      let is = printable.1 in
      ap (λ o. place_in feed times (escape (option_map_or (λ point. point.id) o []))) is
      ∙ ap (λ o. or_else (option_map place.Stop o) (option_map place.Point (position (λ point. bytes_eq (escape printable.0.id) (escape point.id)) times.points)))
      (item_none (λ stop. stop.id) feed.stops no_stop printable.0.id (All-at (λ point. IsUtf8 point.id) times.points k printable.0 held.points is) held.stops (All-at (λ point. All (λ stop. point.id ≢ stop.id) feed.stops) times.points k printable.0 sound_times.no_stop is))
      ∙ ap (λ o. option_map place.Point o) (item_complete (λ point. point.id) times.points no_point sound_times.ids.distinct held.points k printable.0 is)

  place_graphic : (p : Place) → IsPrintablePlace feed times p → list_all is_graphic (place_text feed times p) ≡ true
  place_graphic (place.Stop s) printable =
      ap (λ o. list_all is_graphic (escape (option_map_or (λ stop. stop.id) o []))) printable.1
      ∙ escape-graphic printable.0.id (All-at (λ stop. IsUtf8 stop.id) feed.stops s printable.0 held.stops printable.1)
  place_graphic (place.Point k) printable =
      ap (λ o. list_all is_graphic (escape (option_map_or (λ point. point.id) o []))) printable.1
      ∙ escape-graphic printable.0.id (All-at (λ point. IsUtf8 point.id) times.points k printable.0 held.points printable.1)

  pub place_word : IsWord (place_text feed times) (IsPrintablePlace feed times) (place_in feed times)
  place_word = record { sound = place_sound; complete = place_complete; graphic = place_graphic }

  -- ---- label PLACE DEADLINE ARRIVAL, and WALK

  abbrev pub label_words : Bool → CertLabel → List (List ℕ)
  label_words walking l = codes "label" ∷ place_text feed times l.place ∷ deadline_text l.deadline ∷ moment_text l.arrival ∷ walk_words walking l.walk

  pub record IsLabelLine (walking : Bool) (l : CertLabel) : Type 0 where
    pub place : IsPrintablePlace feed times l.place
    pub deadline : IsPrintableDeadline l.deadline
    pub arrival : IsPrintableMoment l.arrival
    pub walk : IsWalk walking l.walk

  label_parts : (p : Option Place) (d : Option Deadline) (a : Option ℤ) (w : Option ℕ) (l : CertLabel) → label_from p d a w ≡ Some l
      → (p ≡ Some l.place) × (d ≡ Some l.deadline) × (a ≡ Some l.arrival) × (w ≡ Some l.walk)
  label_parts None d a w l e = absurd (none_some l e)
  label_parts (Some p) None a w l e = absurd (none_some l e)
  label_parts (Some p) (Some d) None w l e = absurd (none_some l e)
  label_parts (Some p) (Some d) (Some a) None l e = absurd (none_some l e)
  label_parts (Some p) (Some d) (Some a) (Some w) l e =
      let is = some_is (record { place = p; deadline = d; arrival = a; walk = w }) l e in
      (ap (λ (x : CertLabel). Some x.place) is, ap (λ (x : CertLabel). Some x.deadline) is, ap (λ (x : CertLabel). Some x.arrival) is, ap (λ (x : CertLabel). Some x.walk) is)

  label_whole : (p : Option Place) (d : Option Deadline) (a : Option ℤ) (w : Option ℕ) (l : CertLabel) → p ≡ Some l.place → d ≡ Some l.deadline → a ≡ Some l.arrival → w ≡ Some l.walk
      → label_from p d a w ≡ Some l
  label_whole p d a w l hp hd ha hw =
      ap (λ x. label_from x d a w) hp ∙ ap (λ x. label_from (Some l.place) x a w) hd
      ∙ ap (λ x. label_from (Some l.place) (Some l.deadline) x w) ha ∙ ap (λ x. label_from (Some l.place) (Some l.deadline) (Some l.arrival) x) hw

  label_sound : (walking : Bool) (ws : List (List ℕ)) (l : CertLabel) → label_in feed times walking ws ≡ Some l → IsLabelLine walking l × (ws ≡ label_words walking l)
  unfolding label_in
  label_sound walking [] l e = absurd (none_some l e)
  label_sound walking (k ∷ []) l e = absurd (none_some l e)
  label_sound walking (k ∷ p ∷ []) l e = absurd (none_some l e)
  label_sound walking (k ∷ p ∷ d ∷ []) l e = absurd (none_some l e)
  label_sound walking (k ∷ p ∷ d ∷ a ∷ last) l e =
      let passed = then_some (bytes_eq k (codes "label")) (label_from (place_in feed times p) (deadline_in d) (moment 1980 2209 a) (walk_in walking last)) l e in
      let parts = label_parts (place_in feed times p) (deadline_in d) (moment 1980 2209 a) (walk_in walking last) l passed.1 in
      let p-is = place_word.sound p l.place parts.0 in
      let d-is = deadline_word.sound d l.deadline parts.1 in
      let a-is = moment_word.sound a l.arrival parts.2 in
      let w-is = (walk_tail walking).sound last l.walk parts.3 in (
        record { place = p-is.0; deadline = d-is.0; arrival = a-is.0; walk = w-is.0 },
        ap (λ (x : List ℕ). x ∷ p ∷ d ∷ a ∷ last) (is_text k (codes "label") passed.0) ∙ ap (λ (x : List ℕ). codes "label" ∷ x ∷ d ∷ a ∷ last) p-is.1
            ∙ ap (λ (x : List ℕ). codes "label" ∷ place_text feed times l.place ∷ x ∷ a ∷ last) d-is.1
            ∙ ap (λ (x : List ℕ). codes "label" ∷ place_text feed times l.place ∷ deadline_text l.deadline ∷ x ∷ last) a-is.1
            ∙ ap (λ (x : List (List ℕ)). codes "label" ∷ place_text feed times l.place ∷ deadline_text l.deadline ∷ moment_text l.arrival ∷ x) w-is.1,
      )

  pub label_line : (walking : Bool) → IsLine (label_words walking) (IsLabelLine walking) (label_in feed times walking)
  unfolding label_in
  label_line walking = record {
    sound = label_sound walking;
    complete = λ l valid.
        label_whole (place_in feed times (place_text feed times l.place)) (deadline_in (deadline_text l.deadline)) (moment 1980 2209 (moment_text l.arrival)) (walk_in walking (walk_words walking l.walk)) l
        (place_word.complete l.place valid.place) (deadline_word.complete l.deadline valid.deadline) (moment_word.complete l.arrival valid.arrival) ((walk_tail walking).complete l.walk valid.walk);
    some = λ l e. cc;
    few = λ l. omega (arith, walk_few walking l.walk);
    are_words = λ l valid. (refl, (place_word.graphic l.place valid.place, (deadline_word.graphic l.deadline valid.deadline, (moment_word.graphic l.arrival valid.arrival, walk_are walking l.walk valid.walk))));
  }

  -- ---- ride TRIP DATE FROM TO PLACE PLACE DEPARTS ARRIVES, and START

  abbrev pub trip_at : ℕ → Trip
  trip_at k = option_map_or (λ t. t) (slice_get feed.trips k) no_trip

  pub trip_at-is : (k : ℕ) (trip : Trip) → slice_get feed.trips k ≡ Some trip → trip_at k ≡ trip
  trip_at-is k trip is = ap (λ o. option_map_or (λ t. t) o no_trip) is

  abbrev pub HasTrip : ℕ → Type 0
  HasTrip k = (trip : Trip) × (slice_get feed.trips k ≡ Some trip)

  trip_sound : (w : List ℕ) (k : ℕ) → trip_in feed w ≡ Some k → HasTrip k × (w ≡ escape (trip_at k).id)
  trip_sound w k e =
      let found = item_sound (λ trip. trip.id) feed.trips no_trip w k e in
      ((found.0, found.1), found.2 ∙ ap (λ (t : Trip). escape t.id) (sym (trip_at-is k found.0 found.1)))

  trip_complete : (k : ℕ) → HasTrip k → trip_in feed (escape (trip_at k).id) ≡ Some k
  trip_complete k has =
      ap (λ (t : Trip). trip_in feed (escape t.id)) (trip_at-is k has.0 has.1)
      ∙ item_complete (λ trip. trip.id) feed.trips no_trip sound.trips.ids.distinct held.trips k has.0 has.1

  trip_graphic : (k : ℕ) → HasTrip k → list_all is_graphic (escape (trip_at k).id) ≡ true
  trip_graphic k has =
      ap (λ (t : Trip). list_all is_graphic (escape t.id)) (trip_at-is k has.0 has.1)
      ∙ escape-graphic has.0.id (All-at (λ trip. IsUtf8 trip.id) feed.trips k has.0 held.trips has.1)

  pub trip_word : IsWord (λ k. escape (trip_at k).id) HasTrip (trip_in feed)
  trip_word = record { sound = trip_sound; complete = trip_complete; graphic = trip_graphic }

  no_row : Row
  no_row = record { sequence = 0; «spot» = spot.Stop 0; timing = timing.Window 0 0; pickup = way.No; drop_off = way.No }

  module _ (rows : List Row) (rising : AllPairs (λ a b. a.sequence < b.sequence) rows) (low : All (λ row. row.sequence < 2 ^ 32) rows) where
    sequence_is : (r : ℕ) → r < length rows → sequence_at rows r ≡ (get_or rows r no_row).sequence
    sequence_is r within = ap (λ o. option_map_or (λ row. row.sequence) o 0) (slice_get-get_or rows r no_row within)

    row_number : IsWord decimal (λ n. n ≤ 4294967295) (number_in 4294967295)
    row_number = number_word 4294967295 (lit< tt)

    row_sound : (w : List ℕ) (r : ℕ) → row_in rows w ≡ Some r → (r < length rows) × (w ≡ decimal (sequence_at rows r))
    row_sound w r e =
        let n = bind_some (number_in 4294967295 w) (λ n. position (λ row. eqb row.sequence n) rows) r e in
        let at = position-Some (λ row. eqb row.sequence n.0) rows r no_row n.2 in
        let same : sequence_at rows r ≡ n.0 = sequence_is r at.0 ∙ eqb-true (get_or rows r no_row).sequence n.0 at.1 in
        (at.0, (row_number.sound w n.0 n.1).1 ∙ ap decimal (sym same))

    row_complete : (r : ℕ) → r < length rows → row_in rows (decimal (sequence_at rows r)) ≡ Some r
    row_complete r within =
        let n = (get_or rows r no_row).sequence in
        let small : n < 2 ^ 32 = low r no_row within in
        let passes : Row → Bool = λ row. eqb row.sequence n in
        let at : position_or_len passes rows ≡ r = position_or_len_is passes rows r no_row (omega (arith, within))
        (λ j below. false_from_ne_true (passes (get_or rows j no_row)) (λ same.
        let less = rising j r no_row below within in
        let equal = eqb-true (get_or rows j no_row).sequence n same in
        omega (arith, less, equal)))
        (λ below. eq-eqb n n refl) in
        let found : position passes rows ≡ Some r = ap (λ (k : ℕ). cond (ltb k (length rows)) (Some k) None) at ∙ ap (λ (b : Bool). cond b (Some r) None) (lt-ltb r (length rows) within) in
        ap (λ (k : ℕ). row_in rows (decimal k)) (sequence_is r within)
        ∙ ap (λ o. o >>= λ k. position (λ row. eqb row.sequence k) rows) (row_number.complete n (omega (arith, small))) ∙ found

    row_graphic : (r : ℕ) → r < length rows → list_all is_graphic (decimal (sequence_at rows r)) ≡ true
    row_graphic r within = row_number.graphic (sequence_at rows r) (let small = low r no_row within in let is = sequence_is r within in omega (arith, small, is))

    pub row_word : IsWord (λ r. decimal (sequence_at rows r)) (λ r. r < length rows) (row_in rows)
    row_word = record { sound = row_sound; complete = row_complete; graphic = row_graphic }

  rows_word : (k : ℕ) → HasTrip k → IsWord (λ r. decimal (sequence_at (trip_at k).rows r)) (λ r. r < length (trip_at k).rows) (row_in (trip_at k).rows)
  rows_word k has =
      let is = sym (trip_at-is k has.0 has.1) in
      subst (λ (t : Trip). IsWord (λ r. decimal (sequence_at t.rows r)) (λ r. r < length t.rows) (row_in t.rows)) is
      (row_word has.0.rows (All-at (IsSoundTrip feed) feed.trips k has.0 sound.each_trip has.1).rising
      (All-at (λ trip. All (λ row. row.sequence < 2 ^ 32) trip.rows) feed.trips k has.0 held.sequences has.1))

  rows_of-is : (k : ℕ) → HasTrip k → rows_of feed k ≡ (trip_at k).rows
  rows_of-is k has = ap (λ o. option_map_or (λ t. t.rows) o []) has.1 ∙ ap (λ (t : Trip). t.rows) (sym (trip_at-is k has.0 has.1))

  frequent-is : (k : ℕ) → HasTrip k → is_frequent feed k ≡ (trip_at k).frequent
  frequent-is k has = ap (λ o. option_map_or (λ t. t.frequent) o false) has.1 ∙ ap (λ (t : Trip). t.frequent) (sym (trip_at-is k has.0 has.1))

  abbrev pub ride_words : Ride → List (List ℕ)
  ride_words ride = words_on_trip feed times ride (trip_at ride.trip)

  -- a ride of the feed
  pub record IsRideLine (ride : Ride) : Type 0 where
    pub trip : HasTrip ride.trip
    pub day : IsPrintableDay ride.day
    pub start : IsStart (trip_at ride.trip).frequent ride.start
    pub from : ride.from_row < length (trip_at ride.trip).rows
    pub to : ride.to_row < length (trip_at ride.trip).rows
    pub board : IsPrintablePlace feed times ride.board
    pub alight : IsPrintablePlace feed times ride.alight
    pub departs : IsPrintableMoment ride.departs
    pub arrives : IsPrintableMoment ride.arrives

  -- the parts of a ride that were found
  pub record AreRideParts (ride : Ride) (t : ℕ) (d : Option ℤ) (f o : Option ℕ) (b a : Option Place) (m n : Option ℤ) (s : Option (Option ℕ)) : Type 0 where
    pub trip : t ≡ ride.trip
    pub day : d ≡ Some ride.day
    pub from : f ≡ Some ride.from_row
    pub to : o ≡ Some ride.to_row
    pub board : b ≡ Some ride.board
    pub alight : a ≡ Some ride.alight
    pub departs : m ≡ Some ride.departs
    pub arrives : n ≡ Some ride.arrives
    pub start : s ≡ Some ride.start

  abbrev ride_from : ℕ → Option ℤ → Option ℕ → Option ℕ → Option Place → Option Place → Option ℤ → Option ℤ → Option (Option ℕ) → Option Ride
  ride_from t d f o b a m n s = ride_along t d f o (stretch_from b a m n) s

  ride_parts : (t : ℕ) (d : Option ℤ) (f o : Option ℕ) (b a : Option Place) (m n : Option ℤ) (s : Option (Option ℕ)) (ride : Ride)
      → ride_from t d f o b a m n s ≡ Some ride → AreRideParts ride t d f o b a m n s
  ride_parts t None f o b a m n s ride e = absurd (none_some ride e)
  ride_parts t (Some d) None o b a m n s ride e = absurd (none_some ride e)
  ride_parts t (Some d) (Some f) None b a m n s ride e = absurd (none_some ride e)
  ride_parts t (Some d) (Some f) (Some o) None a m n s ride e = absurd (none_some ride e)
  ride_parts t (Some d) (Some f) (Some o) (Some b) None m n s ride e = absurd (none_some ride e)
  ride_parts t (Some d) (Some f) (Some o) (Some b) (Some a) None n s ride e = absurd (none_some ride e)
  ride_parts t (Some d) (Some f) (Some o) (Some b) (Some a) (Some m) None s ride e = absurd (none_some ride e)
  ride_parts t (Some d) (Some f) (Some o) (Some b) (Some a) (Some m) (Some n) None ride e = absurd (none_some ride e)
  ride_parts t (Some d) (Some f) (Some o) (Some b) (Some a) (Some m) (Some n) (Some s) ride e =
      let is = some_is (record { trip = t; day = d; start = s; from_row = f; to_row = o; board = b; alight = a; departs = m; arrives = n }) ride e in
      record {
        trip = ap (λ (x : Ride). x.trip) is;
        day = ap (λ (x : Ride). Some x.day) is;
        from = ap (λ (x : Ride). Some x.from_row) is;
        to = ap (λ (x : Ride). Some x.to_row) is;
        board = ap (λ (x : Ride). Some x.board) is;
        alight = ap (λ (x : Ride). Some x.alight) is;
        departs = ap (λ (x : Ride). Some x.departs) is;
        arrives = ap (λ (x : Ride). Some x.arrives) is;
        start = ap (λ (x : Ride). Some x.start) is;
      }

  ride_whole : (t : ℕ) (d : Option ℤ) (f o : Option ℕ) (b a : Option Place) (m n : Option ℤ) (s : Option (Option ℕ)) (ride : Ride)
      → AreRideParts ride t d f o b a m n s → ride_from t d f o b a m n s ≡ Some ride
  ride_whole t d f o b a m n s r h =
      ap (λ x. ride_from x d f o b a m n s) h.trip ∙ ap (λ x. ride_from r.trip x f o b a m n s) h.day
      ∙ ap (λ x. ride_from r.trip (Some r.day) x o b a m n s) h.from ∙ ap (λ x. ride_from r.trip (Some r.day) (Some r.from_row) x b a m n s) h.to
      ∙ ap (λ x. ride_from r.trip (Some r.day) (Some r.from_row) (Some r.to_row) x a m n s) h.board
      ∙ ap (λ x. ride_from r.trip (Some r.day) (Some r.from_row) (Some r.to_row) (Some r.board) x m n s) h.alight
      ∙ ap (λ x. ride_from r.trip (Some r.day) (Some r.from_row) (Some r.to_row) (Some r.board) (Some r.alight) x n s) h.departs
      ∙ ap (λ x. ride_from r.trip (Some r.day) (Some r.from_row) (Some r.to_row) (Some r.board) (Some r.alight) (Some r.departs) x s) h.arrives
      ∙ ap (λ x. ride_from r.trip (Some r.day) (Some r.from_row) (Some r.to_row) (Some r.board) (Some r.alight) (Some r.departs) (Some r.arrives) x) h.start

  nine : (k t d f o b a l r k' t' d' f' o' b' a' l' r' : List ℕ) (s s' : List (List ℕ)) → k ≡ k' → t ≡ t' → d ≡ d' → f ≡ f' → o ≡ o' → b ≡ b' → a ≡ a' → l ≡ l' → r ≡ r' → s ≡ s'
      → (k ∷ t ∷ d ∷ f ∷ o ∷ b ∷ a ∷ l ∷ r ∷ s) ≡ (k' ∷ t' ∷ d' ∷ f' ∷ o' ∷ b' ∷ a' ∷ l' ∷ r' ∷ s')
  nine k t d f o b a l r k' t' d' f' o' b' a' l' r' s s' hk ht hd hf ho hb ha hl hr hs = cc

  -- the ride that further words tell on a trip
  abbrev on_trip : (d f o b a l r : List ℕ) → List (List ℕ) → ℕ → Option Ride
  on_trip d f o b a l r last t =
      ride_from t (date d) (row_in (rows_of feed t) f) (row_in (rows_of feed t) o) (place_in feed times b) (place_in feed times a)
      (moment 1980 2209 l) (moment 1980 2209 r) (start_in (is_frequent feed t) last)

  nine_sound : (k t d f o b a l r : List ℕ) (last : List (List ℕ)) (ride : Ride) → ride_in feed times (k ∷ t ∷ d ∷ f ∷ o ∷ b ∷ a ∷ l ∷ r ∷ last) ≡ Some ride
      → IsRideLine ride × ((k ∷ t ∷ d ∷ f ∷ o ∷ b ∷ a ∷ l ∷ r ∷ last) ≡ ride_words ride)
  unfolding ride_in
  nine_sound k t d f o b a l r last ride e =
      let passed = then_some (bytes_eq k (codes "ride")) (trip_in feed t >>= on_trip d f o b a l r last) ride e in
      let found = bind_some (trip_in feed t) (on_trip d f o b a l r last) ride passed.1 in
      let parts = ride_parts found.0 (date d) (row_in (rows_of feed found.0) f) (row_in (rows_of feed found.0) o) (place_in feed times b) (place_in feed times a)
      (moment 1980 2209 l) (moment 1980 2209 r) (start_in (is_frequent feed found.0) last) ride found.2 in
      let trip : trip_in feed t ≡ Some ride.trip = found.1 ∙ ap (λ (x : ℕ). Some x) parts.trip in
      let t-is = trip_word.sound t ride.trip trip in
      let d-is = day_word.sound d ride.day parts.day in
      let rows = rows_word ride.trip t-is.0 in
      let same : (trip_at ride.trip).rows ≡ rows_of feed found.0 = sym (rows_of-is ride.trip t-is.0) ∙ ap (rows_of feed) (sym parts.trip) in
      let frequent : (trip_at ride.trip).frequent ≡ is_frequent feed found.0 = sym (frequent-is ride.trip t-is.0) ∙ ap (is_frequent feed) (sym parts.trip) in
      let f-is = rows.sound f ride.from_row (ap (λ (x : List Row). row_in x f) same ∙ parts.from) in
      let o-is = rows.sound o ride.to_row (ap (λ (x : List Row). row_in x o) same ∙ parts.to) in
      let b-is = place_word.sound b ride.board parts.board in
      let a-is = place_word.sound a ride.alight parts.alight in
      let l-is = moment_word.sound l ride.departs parts.departs in
      let r-is = moment_word.sound r ride.arrives parts.arrives in
      let s-is = (start_tail (trip_at ride.trip).frequent).sound last ride.start (ap (λ (x : Bool). start_in x last) frequent ∙ parts.start) in (
        record { trip = t-is.0; day = d-is.0; start = s-is.0; from = f-is.0; to = o-is.0; board = b-is.0; alight = a-is.0; departs = l-is.0; arrives = r-is.0 },
        nine k t d f o b a l r (codes "ride") (escape (trip_at ride.trip).id) (date_text ride.day) (decimal (sequence_at (trip_at ride.trip).rows ride.from_row)) (decimal (sequence_at (trip_at ride.trip).rows ride.to_row))
            (place_text feed times ride.board) (place_text feed times ride.alight) (moment_text ride.departs) (moment_text ride.arrives) last (start_words ride.start)
            (is_text k (codes "ride") passed.0) t-is.1 d-is.1 f-is.1 o-is.1 b-is.1 a-is.1 l-is.1 r-is.1 s-is.1,
      )

  ride_sound : (ws : List (List ℕ)) (ride : Ride) → ride_in feed times ws ≡ Some ride → IsRideLine ride × (ws ≡ ride_words ride)
  unfolding ride_in
  ride_sound [] ride e = absurd (none_some ride e)
  ride_sound (k ∷ []) ride e = absurd (none_some ride e)
  ride_sound (k ∷ t ∷ []) ride e = absurd (none_some ride e)
  ride_sound (k ∷ t ∷ d ∷ []) ride e = absurd (none_some ride e)
  ride_sound (k ∷ t ∷ d ∷ f ∷ []) ride e = absurd (none_some ride e)
  ride_sound (k ∷ t ∷ d ∷ f ∷ o ∷ []) ride e = absurd (none_some ride e)
  ride_sound (k ∷ t ∷ d ∷ f ∷ o ∷ b ∷ []) ride e = absurd (none_some ride e)
  ride_sound (k ∷ t ∷ d ∷ f ∷ o ∷ b ∷ a ∷ []) ride e = absurd (none_some ride e)
  ride_sound (k ∷ t ∷ d ∷ f ∷ o ∷ b ∷ a ∷ l ∷ []) ride e = absurd (none_some ride e)
  ride_sound (k ∷ t ∷ d ∷ f ∷ o ∷ b ∷ a ∷ l ∷ r ∷ last) ride e = nine_sound k t d f o b a l r last ride e

  ride_complete : (ride : Ride) → IsRideLine ride → ride_in feed times (ride_words ride) ≡ Some ride
  unfolding ride_in
  ride_complete ride valid =
      let rows = rows_word ride.trip valid.trip in
      let same = rows_of-is ride.trip valid.trip in
      let frequent = frequent-is ride.trip valid.trip in
      let fw = decimal (sequence_at (trip_at ride.trip).rows ride.from_row) in
      let ow = decimal (sequence_at (trip_at ride.trip).rows ride.to_row) in
      let further = on_trip (date_text ride.day) fw ow (place_text feed times ride.board) (place_text feed times ride.alight) (moment_text ride.departs) (moment_text ride.arrives) (start_words ride.start) in
      ap (λ u. u >>= further) (trip_word.complete ride.trip valid.trip)
      ∙ ride_whole ride.trip (date (date_text ride.day)) (row_in (rows_of feed ride.trip) fw) (row_in (rows_of feed ride.trip) ow)
      (place_in feed times (place_text feed times ride.board)) (place_in feed times (place_text feed times ride.alight))
      (moment 1980 2209 (moment_text ride.departs)) (moment 1980 2209 (moment_text ride.arrives)) (start_in (is_frequent feed ride.trip) (start_words ride.start)) ride (record {
        trip = refl;
        day = day_word.complete ride.day valid.day;
        from = ap (λ (x : List Row). row_in x fw) same ∙ rows.complete ride.from_row valid.from;
        to = ap (λ (x : List Row). row_in x ow) same ∙ rows.complete ride.to_row valid.to;
        board = place_word.complete ride.board valid.board;
        alight = place_word.complete ride.alight valid.alight;
        departs = moment_word.complete ride.departs valid.departs;
        arrives = moment_word.complete ride.arrives valid.arrives;
        start = ap (λ (x : Bool). start_in x (start_words ride.start)) frequent ∙ start_complete (trip_at ride.trip).frequent ride.start valid.start;
      })

  pub ride_line : IsLine ride_words IsRideLine (ride_in feed times)
  ride_line = record {
    sound = ride_sound;
    complete = ride_complete;
    some = λ ride e. cc;
    few = λ ride. omega (arith, start_few ride.start);
    are_words = λ ride valid.
        let rows = rows_word ride.trip valid.trip in (
          refl,
          (
            trip_word.graphic ride.trip valid.trip,
            (
              day_word.graphic ride.day valid.day,
              (
                rows.graphic ride.from_row valid.from,
                (
                  rows.graphic ride.to_row valid.to,
                  (
                    place_word.graphic ride.board valid.board,
                    (
                      place_word.graphic ride.alight valid.alight,
                      (moment_word.graphic ride.departs valid.departs, (moment_word.graphic ride.arrives valid.arrives, start_are (trip_at ride.trip).frequent ride.start valid.start)),
                    ),
                  ),
                ),
              ),
            ),
          ),
        );
  }
