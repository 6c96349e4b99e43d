-- The text of a certificate is read back, and where bytes are none, reading stops at their first bad line.
use Rattle.std.proofs.Common.{◌≡◌, ◌≢◌, ◌⊎◌, ℕ, zero, suc, ◌+◌, ◌-◌, ◌^◌, ◌<◌, ◌≤◌, Bool, true, false, not, cond, ◌||◌, eqb, ltb, pos, List, [], ◌∷◌, ◌++◌, length, get_or, slice_get, take, All, IsUtf8, Result, Ok, Err, refl, sym, ap, subst, ◌∙◌, append_assoc, append-nil, arith, inl, inr, lit<, lit≤}
use Rattle.std.specs.List.{count_by, flat_map, list_any}
use Rattle.std.specs.Option.{option_map_or}
use Rattle.std.proofs.lemmas.Bool.{and_from, and_parts, eqb-true, false≢true, lt-ltb, ltb-true, or_cases}
use Rattle.std.proofs.lemmas.List.{length-append, nil_from_length, take_at}
use Rattle.std.proofs.lemmas.List.Concat.{flat_map-cons}
use Rattle.std.proofs.lemmas.List.Elements.{All-cons, All-nil}
use Rattle.std.proofs.lemmas.List.Folds.{list_any_at}
use Rattle.std.proofs.lemmas.Option.{get_or_from_slice_get, slice_get-get_or, slice_get_within}
use Rattle.std.proofs.lemmas.Str.{IsUtf8-from_ascii}
use Rattle.std.proofs.lemmas.Str.Ascii.{IsAscii-cons, IsAscii-nil}
use Rattle.bound_cert.specs.declared.cert.Cert.{Cert}
use Rattle.bound_cert.specs.declared.cert.CertLabel.{CertLabel}
use Rattle.bound_cert.specs.declared.cert.CertPart.{CertPart}
use Rattle.bound_cert.specs.declared.cert.CertRound.{CertRound}
use Rattle.bound_cert.specs.CertText.{cert_text, part_text, round_text, rounds_text, some_asks}
use Rattle.bound_cert.specs.Laws.{AreHeld}
use Rattle.bound_cert.specs.LineWords.{has_place, has_ride, heading_in, is_allowed, label_count_in, label_in, query_in, ride_in, round_count_in, triple_in}
use Rattle.bound_cert.specs.HeldCert.{IsHeldAnswer, IsHeldPart, IsHeldRide, IsHeldRound, IsWritten}
use Rattle.bound_cert.specs.PrintableCert.{IsPrintableLabel, IsPrintablePart, IsPrintableRound}
use Rattle.bound_cert.specs.Reading.{Read, ◌>>=◌, answer_at, begun_at, cert_at, each_at, each_from, later_at, line_at, pair_at, part_at, parts_from, round_at}
use Rattle.bound_cert.specs.Syntax.{AreWholeLines, IsSyntaxFault, is_line_feed}
use Rattle.bound_cert.proofs.LineReaders.{line_reads}
use Rattle.bound_cert.proofs.LineLaws.{IsHeading, IsLabelCount, IsQueryLine, IsTripleLine, heading_line, heading_words, label_count_line, label_count_words, query_line, query_words, round_count_line, round_count_words, triple_line, triple_words}
use Rattle.bound_cert.proofs.PlaceLines.{IsLabelLine, IsRideLine, id_given, label_line, label_words, no_point, no_stop, no_trip, ride_line, ride_words, trip_at-is}
use Rattle.bound_cert.proofs.Readers.{AllFrom, IsReader, SoMany, Stops, bind_err, bind_ok, done, each_from_reads, failed, map_reads, none_reads, ok_is, ok_not_err, pair_reads, texts_from}
use Rattle.flex_model.specs.declared.answer.Answer.{Answer}
use Rattle.flex_model.specs.declared.answer.Triple.{Triple}
use Rattle.flex_model.specs.declared.feed.Feed.{Feed}
use Rattle.flex_model.specs.declared.moment.Deadline.TheVariants.{Never}
use Rattle.flex_model.specs.declared.place.Place.{Place}
use Rattle.flex_model.specs.declared.place.Place.TheVariants as place
use Rattle.flex_model.specs.declared.ride.Ride.{Ride}
use Rattle.flex_model.specs.declared.times.Times.{Times}
use Rattle.flex_model.specs.declared.trip.Trip.{Trip}
use Rattle.flex_model.specs.SoundFeed.{IsSoundFeed}
use Rattle.flex_model.specs.SoundTimes.{AreSoundTimes}
use Rattle.query_io.specs.AnswerText.{journey_lines, line, named_answers_text, words_on_trip}
use Rattle.query_io.specs.AnswerText as text
use Rattle.query_io.specs.Printable.{IsPrintableAnswer, IsPrintablePlace, IsPrintableRide}
use Rattle.bound_cert.proofs.CertLists.{all_both, all_first, all_from, all_rest, all_to, copies_of, first_day, first_moment, flat_texts, or_assoc, or_false, or_true, some_item, start_one, start_one-is, yes_no}

err_same : (d e : ℕ) → failed {A = Cert} d ≡ failed e → d ≡ e
err_same d e h = cc

not_nil : (next more : List ℕ) → (next ++ 10 ∷ []) ++ more ≡ [] → ⊥
not_nil [] more e = cc
not_nil (x ∷ next) more e = cc

module _ (feed : Feed) (times : Times) (sound : IsSoundFeed feed) (sound_times : AreSoundTimes feed times) (held : AreHeld feed times) where
  -- ---- journeys

  abbrev triple_one : Triple
  triple_one = record { deadline = Never; arrival = pos 315532800; transfers = 0; walk = 0 }

  triple_one-is : (walking : Bool) → IsTripleLine walking triple_one
  triple_one-is walking = record { deadline = tt; arrival = first_moment; few = lit≤ tt; walk = (lit< tt, λ h. refl) }

  triple_reads : (walking : Bool) → IsReader (λ t. line (triple_words walking t)) (IsTripleLine walking) (line_at (triple_in walking))
  triple_reads walking = line_reads (triple_words walking) (IsTripleLine walking) (triple_in walking) (triple_line walking) triple_one (triple_one-is walking)

  abbrev OfFeed : Ride → Type 0
  OfFeed = IsRideLine feed times sound sound_times held

  abbrev the_ride_words : Ride → List (List ℕ)
  the_ride_words = ride_words feed times sound sound_times held

  ride_to : (ride : Ride) → OfFeed ride → IsPrintableRide feed times ride
  ride_to ride valid =
      let same = trip_at-is feed times sound sound_times held ride.trip valid.trip.0 valid.trip.1 in
      record {
        trip = valid.trip.0;
        of_trip = valid.trip.1;
        id = id_given (λ trip. trip.id) feed.trips ride.trip valid.trip.0 sound.trips.ids.given valid.trip.1;
        day = valid.day;
        from = subst (λ (t : Trip). ride.from_row < length t.rows) same valid.from;
        to = subst (λ (t : Trip). ride.to_row < length t.rows) same valid.to;
        board = valid.board;
        alight = valid.alight;
        departs = valid.departs;
        arrives = valid.arrives;
        starts = valid.start.1 ∙ ap (λ (t : Trip). t.frequent) same;
      }

  ride_held : (ride : Ride) → OfFeed ride → IsHeldRide ride
  ride_held ride valid = valid.start.0

  ride_from' : (ride : Ride) → IsPrintableRide feed times ride × IsHeldRide ride → OfFeed ride
  ride_from' ride both =
      let valid = both.0 in
      let same = sym (trip_at-is feed times sound sound_times held ride.trip valid.trip valid.of_trip) in
      record {
        trip = (valid.trip, valid.of_trip);
        day = valid.day;
        start = (both.1, valid.starts ∙ ap (λ (t : Trip). t.frequent) same);
        from = subst (λ (t : Trip). ride.from_row < length t.rows) same valid.from;
        to = subst (λ (t : Trip). ride.to_row < length t.rows) same valid.to;
        board = valid.board;
        alight = valid.alight;
        departs = valid.departs;
        arrives = valid.arrives;
      }

  ride_same : (ride : Ride) → OfFeed ride → line (the_ride_words ride) ≡ text.ride_line feed times ride
  ride_same ride valid =
      ap (λ (t : Trip). line (words_on_trip feed times ride t)) (trip_at-is feed times sound sound_times held ride.trip valid.trip.0 valid.trip.1)
      ∙ sym (ap (λ o. option_map_or (λ trip. line (words_on_trip feed times ride trip)) o []) valid.trip.1)

  abbrev IsAnswer : Bool → Answer → Type 0
  IsAnswer walking answer = IsPrintableAnswer feed times walking answer × IsHeldAnswer answer

  module _ (one : Ride) (one_valid : OfFeed one) where
    ride_reads : IsReader (λ r. line (the_ride_words r)) OfFeed (line_at (ride_in feed times))
    ride_reads = line_reads the_ride_words OfFeed (ride_in feed times) (ride_line feed times sound sound_times held) one one_valid

    abbrev rides_text : List Ride → List ℕ
    rides_text = texts_from (λ k r. line (the_ride_words r)) 1

    rides_read : (n : ℕ) → IsReader rides_text (SoMany (λ k. OfFeed) 1 n) (each_at (line_at (ride_in feed times)) n)
    rides_read n =
        each_from_reads (λ k r. line (the_ride_words r)) (λ k. OfFeed) (λ k. line_at (ride_in feed times)) n (λ k low. ride_reads) (λ k low. (one, one_valid)) 1 n (omega arith)

    rides_same : (k : ℕ) (rides : List Ride) → AllFrom (λ k. OfFeed) k rides → texts_from (λ k r. line (the_ride_words r)) k rides ≡ flat_map (text.ride_line feed times) rides
    rides_same k rides all = flat_texts OfFeed (λ r. line (the_ride_words r)) (text.ride_line feed times) ride_same k rides all

    module _ (walking : Bool) where
      abbrev journey_text : Triple × List Ride → List ℕ
      journey_text p = line (triple_words walking p.0) ++ rides_text p.1

      abbrev JourneyValid : Triple × List Ride → Type 0
      JourneyValid p = IsTripleLine walking p.0 × SoMany (λ k. OfFeed) 1 (p.0.transfers + 1) p.1

      answer_reads : IsReader (journey_lines feed times walking) (IsAnswer walking) (answer_at feed times walking)
      unfolding answer_at
      answer_reads =
          map_reads journey_text JourneyValid (pair_at (line_at (triple_in walking)) (λ t. each_at (line_at (ride_in feed times)) (t.transfers + 1)))
          (journey_lines feed times walking) (IsAnswer walking) (λ p. record { triple = p.0; rides = p.1 })
          (pair_reads (λ t. line (triple_words walking t)) (IsTripleLine walking) (line_at (triple_in walking)) (λ t. rides_text) (λ t. SoMany (λ k. OfFeed) 1 (t.transfers + 1))
          (λ t. each_at (line_at (ride_in feed times)) (t.transfers + 1)) (triple_reads walking) (λ t valid. rides_read (t.transfers + 1)) (λ t valid. copies_of OfFeed one one_valid 1 (t.transfers + 1)))
          to from
        where
          to : (p : Triple × List Ride) → JourneyValid p → IsAnswer walking (record { triple = p.0; rides = p.1 }) × (journey_lines feed times walking (record { triple = p.0; rides = p.1 }) ≡ journey_text p)
          to p valid = (
            (
              record {
                deadline = valid.0.deadline;
                arrival = valid.0.arrival;
                few = valid.0.few;
                count = valid.1.0;
                rides = all_to OfFeed (IsPrintableRide feed times) ride_to 1 p.1 valid.1.1;
                walk = valid.0.walk.1;
              },
              record { walk = valid.0.walk.0; rides = all_to OfFeed IsHeldRide ride_held 1 p.1 valid.1.1 },
            ),
            ap (λ (z : List ℕ). line (triple_words walking p.0) ++ z) (sym (rides_same 1 p.1 valid.1.1)),
          )

          from : (a : Answer) → IsAnswer walking a → (p : Triple × List Ride) × JourneyValid p × (a ≡ record { triple = p.0; rides = p.1 })
          from a both =
              let printable = both.0 in (
                (a.triple, a.rides),
                (
                  record { deadline = printable.deadline; arrival = printable.arrival; few = printable.few; walk = (both.1.walk, printable.walk) },
                  (printable.count, all_from OfFeed (λ r. IsPrintableRide feed times r × IsHeldRide r) ride_from' 1 a.rides (all_both (IsPrintableRide feed times) IsHeldRide a.rides printable.rides both.1.rides)),
                ),
                refl,
              )

      -- a journey of one ride
      answer_one : (a : Answer) × IsAnswer walking a
      answer_one = (
        record { triple = triple_one; rides = one ∷ [] },
        (
          record {
            deadline = tt;
            arrival = first_moment;
            few = lit≤ tt;
            count = refl;
            rides = All-cons (IsPrintableRide feed times) one [] (ride_to one one_valid) (All-nil (IsPrintableRide feed times));
            walk = λ h. refl;
          },
          record { walk = lit< tt; rides = All-cons IsHeldRide one [] (ride_held one one_valid) (All-nil IsHeldRide) },
        ),
      )

      some_answers : (n : ℕ) → IsReader (texts_from (λ k. journey_lines feed times walking) 1) (SoMany (λ k. IsAnswer walking) 1 n) (each_at (answer_at feed times walking) n)
      some_answers n =
          each_from_reads (λ k. journey_lines feed times walking) (λ k. IsAnswer walking) (λ k. answer_at feed times walking) n (λ k low. answer_reads) (λ k low. answer_one) 1 n (omega arith)

  -- a place, and a ride, where there are any
  place_one : has_place feed times ≡ true → (p : Place) × IsPrintablePlace feed times p
  place_one has = elim (or_cases (ltb 0 (length feed.stops)) (ltb 0 (length times.points)) has) [
    | inl some ↦
        let is = slice_get-get_or feed.stops 0 no_stop (ltb-true 0 (length feed.stops) some) in
        (place.Stop 0, (get_or feed.stops 0 no_stop, is, id_given (λ stop. stop.id) feed.stops 0 (get_or feed.stops 0 no_stop) sound.stops.ids.given is))
    | inr some ↦
        let is = slice_get-get_or times.points 0 no_point (ltb-true 0 (length times.points) some) in
        (place.Point 0, (get_or times.points 0 no_point, is, id_given (λ point. point.id) times.points 0 (get_or times.points 0 no_point) sound_times.ids.given is))
  ]

  ride_one : has_ride feed times ≡ true → (r : Ride) × OfFeed r
  ride_one has =
      let parts = and_parts (has_place feed times) (list_any (λ trip. ltb 0 (length trip.rows)) feed.trips) has in
      let p = place_one parts.0 in
      let t = some_item (λ (trip : Trip). ltb 0 (length trip.rows)) feed.trips parts.1 in
      let given : 0 < length t.1.rows = ltb-true 0 (length t.1.rows) t.3 in
      let within : 0 < length (option_map_or (λ (x : Trip). x) (slice_get feed.trips t.0) no_trip).rows =
      subst (λ (x : Trip). 0 < length x.rows) (sym (trip_at-is feed times sound sound_times held t.0 t.1 t.2)) given in (
        record { trip = t.0; day = pos 0; start = start_one (option_map_or (λ (x : Trip). x) (slice_get feed.trips t.0) no_trip).frequent; from_row = 0; to_row = 0; board = p.0; alight = p.0; departs = pos 315532800; arrives = pos 315532800 },
        record { trip = (t.1, t.2); day = first_day; start = start_one-is (option_map_or (λ (x : Trip). x) (slice_get feed.trips t.0) no_trip).frequent; from = within; to = within; board = p.1; alight = p.1; departs = first_moment; arrives = first_moment },
      )

  place_there : (p : Place) → IsPrintablePlace feed times p → has_place feed times ≡ true
  place_there (place.Stop s) printable =
      let within = slice_get_within feed.stops s printable.0 printable.1 in
      ap (λ (b : Bool). b || ltb 0 (length times.points)) (lt-ltb 0 (length feed.stops) (omega (arith, within)))
  place_there (place.Point p) printable =
      let within = slice_get_within times.points p printable.0 printable.1 in
      ap (λ (b : Bool). ltb 0 (length feed.stops) || b) (lt-ltb 0 (length times.points) (omega (arith, within))) ∙ or_true (ltb 0 (length feed.stops))

  module _ (walking : Bool) where
    abbrev answers_list : List Answer → List ℕ
    answers_list = texts_from (λ k. journey_lines feed times walking) 1

    abbrev Answers : ℕ → List Answer → Type 0
    Answers n = SoMany (λ k. IsAnswer walking) 1 n

    answers_read : (n : ℕ) → (eqb n 0 || has_ride feed times) ≡ true → IsReader answers_list (Answers n) (each_at (answer_at feed times walking) n)
    answers_read n some = elim (or_cases (eqb n 0) (has_ride feed times) some) [
      | inl none ↦ subst (λ (m : ℕ). IsReader answers_list (Answers m) (each_at (answer_at feed times walking) m)) (sym (eqb-true n 0 none))
          (none_reads (λ k. journey_lines feed times walking) (λ k. IsAnswer walking) (λ k. answer_at feed times walking) 1)
      | inr has ↦ let one = ride_one has in some_answers one.0 one.1 walking n
    ]

    answers_some : (n : ℕ) → (eqb n 0 || has_ride feed times) ≡ true → (xs : List Answer) × Answers n xs
    answers_some n some = elim (or_cases (eqb n 0) (has_ride feed times) some) [
      | inl none ↦ ([], (sym (eqb-true n 0 none), tt))
      | inr has ↦ let one = ride_one has in let a = answer_one one.0 one.1 walking in copies_of (IsAnswer walking) a.0 a.1 1 n
    ]

    -- ---- labels and rounds

    abbrev the_label_words : CertLabel → List (List ℕ)
    the_label_words = label_words feed times sound sound_times held walking

    abbrev IsLabel : CertLabel → Type 0
    IsLabel = IsLabelLine feed times sound sound_times held walking

    label_one : has_place feed times ≡ true → (l : CertLabel) × IsLabel l
    label_one has =
        let p = place_one has in (
          record { place = p.0; deadline = Never; arrival = pos 315532800; walk = 0 },
          record { place = p.1; deadline = tt; arrival = first_moment; walk = (lit< tt, λ h. refl) },
        )

    abbrev labels_text : List CertLabel → List ℕ
    labels_text = texts_from (λ k l. line (the_label_words l)) 1

    abbrev Labels : ℕ → List CertLabel → Type 0
    Labels n = SoMany (λ k. IsLabel) 1 n

    labels_read : (n : ℕ) → (eqb n 0 || has_place feed times) ≡ true → IsReader labels_text (Labels n) (each_at (line_at (label_in feed times walking)) n)
    labels_read n some = elim (or_cases (eqb n 0) (has_place feed times) some) [
      | inl none ↦ subst (λ (m : ℕ). IsReader labels_text (Labels m) (each_at (line_at (label_in feed times walking)) m)) (sym (eqb-true n 0 none))
          (none_reads (λ k l. line (the_label_words l)) (λ k. IsLabel) (λ k. line_at (label_in feed times walking)) 1)
      | inr has ↦
          let one = label_one has in
          each_from_reads (λ k l. line (the_label_words l)) (λ k. IsLabel) (λ k. line_at (label_in feed times walking)) n
          (λ k low. line_reads the_label_words IsLabel (label_in feed times walking) (label_line feed times sound sound_times held walking) one.0 one.1) (λ k low. one) 1 n (omega arith)
    ]

    labels_some : (n : ℕ) → (eqb n 0 || has_place feed times) ≡ true → (xs : List CertLabel) × Labels n xs
    labels_some n some = elim (or_cases (eqb n 0) (has_place feed times) some) [
      | inl none ↦ ([], (sym (eqb-true n 0 none), tt))
      | inr has ↦ let one = label_one has in copies_of IsLabel one.0 one.1 1 n
    ]

    label_to : (l : CertLabel) → IsLabel l → IsPrintableLabel feed times walking l
    label_to l valid = record { place = valid.place; deadline = valid.deadline; arrival = valid.arrival; walk = valid.walk.1 }

    label_held : (l : CertLabel) → IsLabel l → l.walk < 2 ^ 32
    label_held l valid = valid.walk.0

    label_from' : (l : CertLabel) → IsPrintableLabel feed times walking l × (l.walk < 2 ^ 32) → IsLabel l
    label_from' l both = record { place = both.0.place; deadline = both.0.deadline; arrival = both.0.arrival; walk = (both.1, both.0.walk) }

    labels_there : (labels : List CertLabel) → All (IsPrintableLabel feed times walking) labels → (eqb (length labels) 0 || has_place feed times) ≡ true
    labels_there [] all = refl
    labels_there (l ∷ labels) all =
        let first = all_first (IsPrintableLabel feed times walking) l labels all in
        ap (λ (b : Bool). eqb (length (l ∷ labels)) 0 || b) (place_there l.place first.place) ∙ or_true (eqb (length (l ∷ labels)) 0)

    abbrev IsRound : CertRound → Type 0
    IsRound round = IsPrintableRound feed times walking round × IsHeldRound round

    round_reads : (k : ℕ) → k ≤ 2 ^ 64 - 1 → IsReader (round_text feed times walking k) IsRound (round_at feed times walking k)
    unfolding round_at
    round_reads k low =
        map_reads (λ p. line (label_count_words k p.0) ++ labels_text p.1) (λ p. IsLabelCount k (has_place feed times) p.0 × Labels p.0 p.1)
        (pair_at (line_at (label_count_in k (has_place feed times))) (λ n. each_at (line_at (label_in feed times walking)) n))
        (round_text feed times walking k) IsRound (λ p. record { labels = p.1 })
        (pair_reads (λ n. line (label_count_words k n)) (IsLabelCount k (has_place feed times)) (line_at (label_count_in k (has_place feed times)))
        (λ n. labels_text) (λ n. Labels n) (λ n. each_at (line_at (label_in feed times walking)) n)
        (line_reads (label_count_words k) (IsLabelCount k (has_place feed times)) (label_count_in k (has_place feed times)) (label_count_line k (has_place feed times)) 0 (low, lit≤ tt, refl))
        (λ n valid. labels_read n valid.2) (λ n valid. labels_some n valid.2))
        to from
      where
        to : (p : ℕ × List CertLabel) → IsLabelCount k (has_place feed times) p.0 × Labels p.0 p.1
            → IsRound (record { labels = p.1 }) × (round_text feed times walking k (record { labels = p.1 }) ≡ line (label_count_words k p.0) ++ labels_text p.1)
        to p valid =
            let count = valid.1.0 in
            let small = valid.0.1 in (
              (
                record { count = omega (arith, count, small); labels = all_to IsLabel (IsPrintableLabel feed times walking) label_to 1 p.1 valid.1.1 },
                all_to IsLabel (λ l. l.walk < 2 ^ 32) label_held 1 p.1 valid.1.1,
              ),
              ap (λ (n : ℕ). line (label_count_words k n) ++ flat_map (λ l. line (the_label_words l)) p.1) count
                  ∙ ap (λ (z : List ℕ). line (label_count_words k p.0) ++ z) (sym (flat_texts IsLabel (λ l. line (the_label_words l)) (λ l. line (the_label_words l)) (λ l v. refl) 1 p.1 valid.1.1)),
            )

        from : (r : CertRound) → IsRound r → (p : ℕ × List CertLabel) × (IsLabelCount k (has_place feed times) p.0 × Labels p.0 p.1) × (r ≡ record { labels = p.1 })
        from r both =
            let small = both.0.count in (
              (length r.labels, r.labels),
              (
                (low, omega (arith, small), labels_there r.labels both.0.labels),
                (
                  refl,
                  all_from IsLabel (λ l. IsPrintableLabel feed times walking l × (l.walk < 2 ^ 32)) label_from' 1 r.labels
                      (all_both (IsPrintableLabel feed times walking) (λ l. l.walk < 2 ^ 32) r.labels both.0.labels both.1),
                ),
              ),
              refl,
            )

    abbrev rounds_list : List CertRound → List ℕ
    rounds_list = texts_from (round_text feed times walking) 1

    abbrev Rounds : ℕ → List CertRound → Type 0
    Rounds n = SoMany (λ k. IsRound) 1 n

    round_none : IsRound (record { labels = [] })
    round_none = (record { count = lit< tt; labels = All-nil (IsPrintableLabel feed times walking) }, All-nil (λ l. l.walk < 2 ^ 32))

    rounds_read : (n : ℕ) → n ≤ 2 ^ 64 - 1 → IsReader rounds_list (Rounds n) (each_from (round_at feed times walking) 1 n)
    rounds_read n low =
        each_from_reads (round_text feed times walking) (λ k. IsRound) (round_at feed times walking) n
        (λ k within. round_reads k (omega (arith, within, low))) (λ k within. (record { labels = [] }, round_none)) 1 n (omega arith)

    -- ---- parts

    abbrev counted_text : ℕ × List CertRound → List ℕ
    counted_text p = line (round_count_words p.0) ++ rounds_list p.1

    abbrev CountedValid : ℕ × List CertRound → Type 0
    CountedValid p = (p.0 ≤ 2 ^ 64 - 1) × Rounds p.0 p.1

    abbrev read_counted : List ℕ → Read (ℕ × List CertRound)
    read_counted = pair_at (line_at round_count_in) (λ n. each_from (round_at feed times walking) 1 n)

    counted_reads : IsReader counted_text CountedValid read_counted
    counted_reads =
        pair_reads (λ n. line (round_count_words n)) (λ n. n ≤ 2 ^ 64 - 1) (line_at round_count_in) (λ n. rounds_list) Rounds (λ n. each_from (round_at feed times walking) 1 n)
        (line_reads round_count_words (λ n. n ≤ 2 ^ 64 - 1) round_count_in round_count_line 0 (lit≤ tt)) rounds_read
        (λ n valid. copies_of IsRound (record { labels = [] }) round_none 1 n)

    abbrev later_text : List Answer × (ℕ × List CertRound) → List ℕ
    later_text p = answers_list p.0 ++ counted_text p.1

    abbrev LaterValid : ℕ → List Answer × (ℕ × List CertRound) → Type 0
    LaterValid n p = Answers n p.0 × CountedValid p.1

    later_reads : (n : ℕ) → (eqb n 0 || has_ride feed times) ≡ true → IsReader later_text (LaterValid n) (later_at feed times walking n)
    later_reads n some =
        pair_reads answers_list (Answers n) (each_at (answer_at feed times walking) n) (λ answers. counted_text) (λ answers. CountedValid) (λ answers. read_counted)
        (answers_read n some) (λ answers v. counted_reads) (λ answers v. ((0, []), (lit≤ tt, (refl, tt))))

  q_utf8 : IsUtf8 (113 ∷ [])
  q_utf8 = IsUtf8-from_ascii (113 ∷ []) (IsAscii-cons 113 [] (lit< tt) IsAscii-nil)

  ride_there : (ride : Ride) → IsPrintableRide feed times ride → has_ride feed times ≡ true
  ride_there ride printable =
      let within = slice_get_within feed.trips ride.trip printable.trip printable.of_trip in
      let rows = printable.from in
      let same = get_or_from_slice_get feed.trips ride.trip printable.trip no_trip printable.of_trip in
      let some : ltb 0 (length (get_or feed.trips ride.trip no_trip).rows) ≡ true =
      ap (λ (t : Trip). ltb 0 (length t.rows)) same ∙ lt-ltb 0 (length printable.trip.rows) (omega (arith, rows)) in
      and_from (has_place feed times) (list_any (λ trip. ltb 0 (length trip.rows)) feed.trips) (place_there ride.board printable.board)
      (list_any_at (λ (trip : Trip). ltb 0 (length trip.rows)) feed.trips ride.trip no_trip within some)

  rides_there : (rides : List Ride) (n : ℕ) → length rides ≡ n + 1 → All (IsPrintableRide feed times) rides → has_ride feed times ≡ true
  rides_there [] n count all = absurd (omega (arith, count))
  rides_there (r ∷ rides) n count all = ride_there r (all_first (IsPrintableRide feed times) r rides all)

  answers_there : (walking : Bool) (answers : List Answer) → All (IsPrintableAnswer feed times walking) answers → (eqb (length answers) 0 || has_ride feed times) ≡ true
  answers_there walking [] all = refl
  answers_there walking (a ∷ answers) all =
      let first = all_first (IsPrintableAnswer feed times walking) a answers all in
      ap (λ (b : Bool). eqb (length (a ∷ answers)) 0 || b) (rides_there a.rides a.triple.transfers first.count first.rides) ∙ or_true (eqb (length (a ∷ answers)) 0)

  -- rounds in a row
  rounds_same : (walking : Bool) (k : ℕ) (rounds : List CertRound) → rounds_text feed times walking k rounds ≡ texts_from (round_text feed times walking) k rounds
  unfolding rounds_text texts_from
  rounds_same walking k [] = refl
  rounds_same walking k (r ∷ rounds) = ap (λ (z : List ℕ). round_text feed times walking k r ++ z) (rounds_same walking (k + 1) rounds)

  -- the text of a part, line by line
  part_is : (part : CertPart) → AllFrom (λ k. IsAnswer part.walking) 1 part.answers
      → part_text feed times part ≡ line (query_words (part.query, (part.walking, length part.answers))) ++ later_text part.walking (part.answers, (length part.rounds, part.rounds))
  unfolding part_text named_answers_text
  part_is part all =
      let w = part.walking in
      let first = line (query_words (part.query, (w, length part.answers))) in
      let counted = line (round_count_words (length part.rounds)) in
      append_assoc first (flat_map (journey_lines feed times w) part.answers) (counted ++ rounds_text feed times w 1 part.rounds)
      ∙ ap (λ (z : List ℕ). first ++ (z ++ (counted ++ rounds_text feed times w 1 part.rounds)))
      (sym (flat_texts (IsAnswer w) (journey_lines feed times w) (journey_lines feed times w) (λ a v. refl) 1 part.answers all))
      ∙ ap (λ (z : List ℕ). first ++ (answers_list w part.answers ++ (counted ++ z))) (rounds_same w 1 part.rounds)

  abbrev IsPart : CertPart → Type 0
  IsPart part = IsPrintablePart feed times part × IsHeldPart part

  abbrev Lines : Type 0
  Lines = (List ℕ × (Bool × ℕ)) × (List Answer × (ℕ × List CertRound))

  abbrev part_of : Lines → CertPart
  part_of p = record { query = p.0.0; walking = p.0.1.0; answers = p.1.0; rounds = p.1.1.1 }

  module _ (may_ask may_not : Bool) (w : Bool) (ok : is_allowed may_ask may_not w ≡ true) where
    abbrev IsQuery : List ℕ × (Bool × ℕ) → Type 0
    IsQuery = IsQueryLine may_ask may_not (has_ride feed times)

    abbrev PartValid : Lines → Type 0
    PartValid p = IsQuery p.0 × LaterValid p.0.1.0 p.0.1.1 p.1

    abbrev part_lines : Lines → List ℕ
    part_lines p = line (query_words p.0) ++ later_text p.0.1.0 p.1

    -- a part whose query may ask for walking, or not ask
    abbrev OfPart : CertPart → Type 0
    OfPart part = IsPart part × (is_allowed may_ask may_not part.walking ≡ true)

    query_one : IsQuery (113 ∷ [], (w, 0))
    query_one = record { given = λ e. cc; utf8 = q_utf8; allowed = ok; count = lit≤ tt; some = refl }

    part_to : (p : Lines) → PartValid p → OfPart (part_of p) × (part_text feed times (part_of p) ≡ part_lines p)
    part_to p valid =
        let walking = p.0.1.0 in
        let answers = valid.1.0 in
        let rounds = valid.1.1.1 in
        let few = valid.0.count in
        let few_rounds = valid.1.1.0 in
        let count = answers.0 in
        let round_count = rounds.0 in (
          (
            (
              record {
                id = valid.0.given;
                answer_count = omega (arith, few, count);
                answers = all_to (IsAnswer walking) (IsPrintableAnswer feed times walking) (λ a v. v.0) 1 p.1.0 answers.1;
                round_count = omega (arith, few_rounds, round_count);
                rounds = all_to (IsRound walking) (IsPrintableRound feed times walking) (λ r v. v.0) 1 p.1.1.1 rounds.1;
              },
              record {
                id = valid.0.utf8;
                answers = all_to (IsAnswer walking) IsHeldAnswer (λ a v. v.1) 1 p.1.0 answers.1;
                rounds = all_to (IsRound walking) IsHeldRound (λ r v. v.1) 1 p.1.1.1 rounds.1;
              },
            ),
            valid.0.allowed,
          ),
          part_is (part_of p) answers.1
              ∙ ap (λ (n : ℕ). line (query_words (p.0.0, (walking, n))) ++ later_text walking (p.1.0, (length p.1.1.1, p.1.1.1))) count
              ∙ ap (λ (n : ℕ). line (query_words p.0) ++ later_text walking (p.1.0, (n, p.1.1.1))) round_count,
        )

    part_from : (part : CertPart) → OfPart part → (p : Lines) × PartValid p × (part ≡ part_of p)
    part_from part both =
        let walking = part.walking in
        let printable = both.0.0 in
        let kept = both.0.1 in
        let few = printable.answer_count in
        let few_rounds = printable.round_count in (
          ((part.query, (part.walking, length part.answers)), (part.answers, (length part.rounds, part.rounds))),
          (
            record { given = printable.id; utf8 = kept.id; allowed = both.1; count = omega (arith, few); some = answers_there walking part.answers printable.answers },
            (
              (refl, all_from (IsAnswer walking) (IsAnswer walking) (λ a v. v) 1 part.answers (all_both (IsPrintableAnswer feed times walking) IsHeldAnswer part.answers printable.answers kept.answers)),
              (
                omega (arith, few_rounds),
                (refl, all_from (IsRound walking) (IsRound walking) (λ r v. v) 1 part.rounds (all_both (IsPrintableRound feed times walking) IsHeldRound part.rounds printable.rounds kept.rounds)),
              ),
            ),
          ),
          refl,
        )

    part_reads : IsReader (part_text feed times) OfPart (part_at feed times may_ask may_not)
    unfolding part_at
    part_reads =
        map_reads part_lines PartValid
        (pair_at (line_at (query_in may_ask may_not (has_ride feed times))) (λ q. later_at feed times q.1.0 q.1.1))
        (part_text feed times) OfPart part_of
        (pair_reads (λ q. line (query_words q)) IsQuery (line_at (query_in may_ask may_not (has_ride feed times)))
        (λ q. later_text q.1.0) (λ q. LaterValid q.1.0 q.1.1) (λ q. later_at feed times q.1.0 q.1.1)
        (line_reads query_words IsQuery (query_in may_ask may_not (has_ride feed times)) (query_line may_ask may_not (has_ride feed times)) (113 ∷ [], (w, 0)) query_one)
        (λ q valid. later_reads q.1.0 q.1.1 valid.some)
        (λ q valid. let xs = answers_some q.1.0 q.1.1 valid.some in ((xs.0, (0, [])), (xs.1, (lit≤ tt, (refl, tt))))))
        part_to part_from

  part_one : (walking : Bool) → IsPart (record { query = 113 ∷ []; walking = walking; answers = []; rounds = [] })
  part_one walking = (
    record {
      id = λ e. cc;
      answer_count = lit< tt;
      answers = All-nil (IsPrintableAnswer feed times walking);
      round_count = lit< tt;
      rounds = All-nil (IsPrintableRound feed times walking);
    },
    record { id = q_utf8; answers = All-nil IsHeldAnswer; rounds = All-nil IsHeldRound },
  )

  -- ---- parts in a row

  abbrev flat : List CertPart → List ℕ
  flat = flat_map (part_text feed times)

  -- So many parts, after others of which one asks for walking or none does. Where some part asks, one before these or one
  -- of these does.
  abbrev PartsValid : Bool → Bool → ℕ → List CertPart → Type 0
  PartsValid two asked n xs = (length xs ≡ n) × All IsPart xs × ((asked || some_asks xs) ≡ two)

  abbrev Fits : Bool → Bool → ℕ → Type 0
  Fits two asked n = (asked ≡ true → two ≡ true) × (n ≡ 0 → asked ≡ two)

  abbrev free : Bool → Bool → ℕ → Bool
  free two asked n = (not two || asked) || ltb 0 n

  allowed_own : (two asked : Bool) (n : ℕ) → is_allowed two (free two asked n) two ≡ true
  allowed_own true asked n = refl
  allowed_own false asked n = refl

  fits_on : (two asked w : Bool) (n : ℕ) → Fits two asked (suc n) → is_allowed two (free two asked n) w ≡ true → Fits two (asked || w) n
  fits_on true true w n fits ok = (λ h. refl, λ h. refl)
  fits_on true false true n fits ok = (λ h. refl, λ h. refl)
  fits_on true false false n fits ok = (λ h. refl, λ h. let more = ltb-true 0 n ok in absurd (omega (arith, more, h)))
  fits_on false true w n fits ok = absurd (false≢true (fits.0 refl))
  fits_on false false true n fits ok = absurd (false≢true ok)
  fits_on false false false n fits ok = (λ h. h, λ h. refl)

  parts_some : (n : ℕ) (two asked : Bool) → Fits two asked n → (xs : List CertPart) × PartsValid two asked n xs
  parts_some zero two asked fits = ([], (refl, All-nil IsPart, or_false asked ∙ fits.1 refl))
  parts_some (suc n) two asked fits =
      let more = parts_some n two (asked || two) (fits_on two asked two n fits (allowed_own two asked n)) in
      let one : CertPart = record { query = 113 ∷ []; walking = two; answers = []; rounds = [] } in
      (one ∷ more.0, (ap suc more.1.0, All-cons IsPart one more.0 (part_one two) more.1.1, or_assoc asked two (some_asks more.0) ∙ more.1.2))

  some_more : (xs : List CertPart) (n : ℕ) → length xs ≡ n → some_asks xs ≡ true → 0 < n
  some_more [] n is some = absurd (false≢true some)
  some_more (x ∷ xs) n is some = omega (arith, is)

  allowed_from : (two asked w more : Bool) (n : ℕ) → (asked || (w || more)) ≡ two → (more ≡ true → 0 < n) → is_allowed two (free two asked n) w ≡ true
  allowed_from true asked true more n is some = refl
  allowed_from false true true more n is some = absurd (yes_no is)
  allowed_from false false true more n is some = absurd (yes_no is)
  allowed_from false asked false more n is some = refl
  allowed_from true true false more n is some = refl
  allowed_from true false false more n is some = lt-ltb 0 n (some is)

  none_parts : (two asked : Bool) → asked ≡ two → IsReader flat (PartsValid two asked 0) (parts_from feed times two asked 0)
  unfolding parts_from
  none_parts two asked same = record {
    sound = λ bytes xs rest e.
        subst (λ (q : List CertPart × List ℕ). PartsValid two asked 0 q.0 × (bytes ≡ flat q.0 ++ q.1)) (ok_is ([], bytes) (xs, rest) e)
        ((refl, All-nil IsPart, or_false asked ∙ same), refl);
    complete = λ xs rest valid. by xs rest valid;
    stops = λ bytes left e. absurd (ok_not_err (done {A = List CertPart × List ℕ} ([], bytes)) ([], bytes) left refl e);
    lines = λ xs valid. no_lines xs valid;
  }
    where
      by : (xs : List CertPart) (rest : List ℕ) → PartsValid two asked 0 xs → parts_from feed times two asked 0 (flat xs ++ rest) ≡ Ok (xs, rest)
      by [] rest valid = refl
      by (x ∷ xs) rest valid = absurd (omega (arith, valid.0))

      no_lines : (xs : List CertPart) → PartsValid two asked 0 xs → AreWholeLines (flat xs)
      no_lines [] valid = inl refl
      no_lines (x ∷ xs) valid = absurd (omega (arith, valid.0))

  parts_read : (n : ℕ) (two asked : Bool) → Fits two asked n → IsReader flat (PartsValid two asked n) (parts_from feed times two asked n)
  unfolding parts_from
  parts_read zero two asked fits = none_parts two asked (fits.1 refl)
  parts_read (suc n) two asked fits =
      let ok = allowed_own two asked n in
      map_reads (λ p. part_text feed times p.0 ++ flat p.1) (λ p. OfPart two (free two asked n) two ok p.0 × PartsValid two (asked || p.0.walking) n p.1)
      (pair_at (part_at feed times two (free two asked n)) (λ part. parts_from feed times two (asked || part.walking) n))
      flat (PartsValid two asked (suc n)) (λ p. p.0 ∷ p.1)
      (pair_reads (part_text feed times) (OfPart two (free two asked n) two ok) (part_at feed times two (free two asked n))
      (λ part. flat) (λ part. PartsValid two (asked || part.walking) n) (λ part. parts_from feed times two (asked || part.walking) n)
      (part_reads two (free two asked n) two ok)
      (λ part valid. parts_read n two (asked || part.walking) (fits_on two asked part.walking n fits valid.1))
      (λ part valid. parts_some n two (asked || part.walking) (fits_on two asked part.walking n fits valid.1)))
      to from
    where
      to : (p : CertPart × List CertPart) → (IsPart p.0 × (is_allowed two (free two asked n) p.0.walking ≡ true)) × PartsValid two (asked || p.0.walking) n p.1
          → PartsValid two asked (suc n) (p.0 ∷ p.1) × (flat (p.0 ∷ p.1) ≡ part_text feed times p.0 ++ flat p.1)
      to p valid = (
        (ap suc valid.1.0, All-cons IsPart p.0 p.1 valid.0.0 valid.1.1, or_assoc asked p.0.walking (some_asks p.1) ∙ valid.1.2),
        flat_map-cons (part_text feed times) p.0 p.1,
      )

      from : (xs : List CertPart) → PartsValid two asked (suc n) xs
          → (p : CertPart × List CertPart) × ((IsPart p.0 × (is_allowed two (free two asked n) p.0.walking ≡ true)) × PartsValid two (asked || p.0.walking) n p.1) × (xs ≡ p.0 ∷ p.1)
      from [] valid = absurd (omega (arith, valid.0))
      from (x ∷ xs) valid =
          let count : length xs ≡ n = omega (arith, valid.0) in (
            (x, xs),
            (
              (all_first IsPart x xs valid.1, allowed_from two asked x.walking (some_asks xs) n valid.2 (some_more xs n count)),
              (count, all_rest IsPart x xs valid.1, sym (or_assoc asked x.walking (some_asks xs)) ∙ valid.2),
            ),
            refl,
          )

  -- ---- certificates

  heading_fits : (two : Bool) (n : ℕ) → (not two || ltb 0 n) ≡ true → Fits two false n
  heading_fits true n some = (λ h. absurd (false≢true h), λ none. let more = ltb-true 0 n some in absurd (omega (arith, more, none)))
  heading_fits false n some = (λ h. h, λ none. refl)

  heading_some : (xs : List CertPart) → (not (some_asks xs) || ltb 0 (length xs)) ≡ true
  heading_some [] = refl
  heading_some (x ∷ xs) =
      ap (λ (b : Bool). not (some_asks (x ∷ xs)) || b) (lt-ltb 0 (length (x ∷ xs)) (omega arith)) ∙ or_true (not (some_asks (x ∷ xs)))

  abbrev CertValid : (Bool × ℕ) × List CertPart → Type 0
  CertValid p = IsHeading p.0 × PartsValid p.0.0 false p.0.1 p.1

  cert_to : (p : (Bool × ℕ) × List CertPart) → CertValid p
      → IsWritten feed times (record { parts = p.1 }) × (cert_text feed times (record { parts = p.1 }) ≡ line (heading_words p.0) ++ flat p.1)
  unfolding cert_text
  cert_to p valid =
      let few = valid.0.0 in
      let count = valid.1.0 in (
        record {
          printable = record { count = omega (arith, few, count); parts = λ k d low. (valid.1.1 k d low).0 };
          held = λ k d low. (valid.1.1 k d low).1;
        },
        ap (λ (two : Bool). line (heading_words (two, length p.1)) ++ flat p.1) valid.1.2
            ∙ ap (λ (n : ℕ). line (heading_words (p.0.0, n)) ++ flat p.1) count,
      )

  cert_from : (c : Cert) → IsWritten feed times c → (p : (Bool × ℕ) × List CertPart) × CertValid p × (c ≡ record { parts = p.1 })
  cert_from c written =
      let few = written.printable.count in (
        ((some_asks c.parts, length c.parts), c.parts),
        ((omega (arith, few), heading_some c.parts), (refl, all_both (IsPrintablePart feed times) IsHeldPart c.parts written.printable.parts written.held, refl)),
        refl,
      )

  begun_reads : IsReader (cert_text feed times) (IsWritten feed times) (begun_at feed times)
  unfolding begun_at
  begun_reads =
      map_reads (λ p. line (heading_words p.0) ++ flat p.1) CertValid
      (pair_at (line_at heading_in) (λ h. parts_from feed times h.0 false h.1)) (cert_text feed times) (IsWritten feed times) (λ p. record { parts = p.1 })
      (pair_reads (λ h. line (heading_words h)) IsHeading (line_at heading_in) (λ h. flat) (λ h. PartsValid h.0 false h.1) (λ h. parts_from feed times h.0 false h.1)
      (line_reads heading_words IsHeading heading_in heading_line (false, 0) (lit≤ tt, refl))
      (λ h valid. parts_read h.1 h.0 false (heading_fits h.0 h.1 valid.1)) (λ h valid. parts_some h.1 h.0 false (heading_fits h.0 h.1 valid.1)))
      cert_to cert_from

  -- ---- certificates, and nothing after them

  abbrev ended : Cert × List ℕ → Result Cert ℕ
  ended x = cond (eqb (length x.1) 0) (Ok x.0) (Err (length x.1))

  pub cert_sound : (bytes : List ℕ) (cert : Cert) → cert_at feed times bytes ≡ Ok cert → IsWritten feed times cert × (bytes ≡ cert_text feed times cert)
  unfolding cert_at
  cert_sound bytes cert e =
      let b = bind_ok (begun_at feed times bytes) ended cert e in
      let read = begun_reads.sound bytes b.0.0 b.0.1 b.1 in
      by b.0.0 b.0.1 read (eqb (length b.0.1) 0) refl b.2
    where
      by : (c : Cert) (rest : List ℕ) → IsWritten feed times c × (bytes ≡ cert_text feed times c ++ rest) → (t : Bool) → eqb (length rest) 0 ≡ t → cond t (Ok c) (Err (length rest)) ≡ Ok cert
          → IsWritten feed times cert × (bytes ≡ cert_text feed times cert)
      by c rest read false is e = absurd (ok_not_err (failed {A = Cert} (length rest)) cert (length rest) e refl)
      by c rest read true is e =
          let none : rest ≡ [] = nil_from_length rest (eqb-true (length rest) 0 is) in
          subst (λ (x : Cert). IsWritten feed times x × (bytes ≡ cert_text feed times x)) (ok_is c cert e)
          (read.0, read.1 ∙ ap (λ (z : List ℕ). cert_text feed times c ++ z) none ∙ append-nil (cert_text feed times c))

  pub cert_complete : (cert : Cert) → IsWritten feed times cert → cert_at feed times (cert_text feed times cert) ≡ Ok cert
  unfolding cert_at
  cert_complete cert valid =
      ap (cert_at feed times) (sym (append-nil (cert_text feed times cert)))
      ∙ ap (λ (r : Read Cert). r >>= ended) (begun_reads.complete cert [] valid)

  -- two texts of certificates, of which one begins with the other
  alike : (c d : Cert) (more : List ℕ) → IsWritten feed times c → IsWritten feed times d → cert_text feed times d ≡ cert_text feed times c ++ more → more ≡ []
  alike c d more valid valid' e =
      let here = begun_reads.complete c more valid in
      let there = begun_reads.complete d [] valid' in
      let same : (c, more) ≡ (d, []) = ok_is (c, more) (d, []) (sym here ∙ ap (begun_at feed times) (sym e ∙ sym (append-nil (cert_text feed times d))) ∙ there) in
      ap (λ (q : Cert × List ℕ). q.1) same

  stops_at : (bytes : List ℕ) (left : ℕ) → Stops (cert_text feed times) (IsWritten feed times) bytes left → ((cert : Cert) → IsWritten feed times cert → bytes ≢ cert_text feed times cert)
      → IsSyntaxFault feed times bytes (count_by is_line_feed (take (length bytes - left) bytes) + 1)
  stops_at bytes left s none =
      let at : take (length bytes - left) bytes ≡ s.before =
      ap (λ (z : List ℕ). take (length z - left) z) s.parts
      ∙ ap (λ (n : ℕ). take n (s.before ++ s.after)) (omega (arith, length-append s.before s.after, s.left_is))
      ∙ take_at s.before s.after (length s.before) refl in
      record {
        before = s.before;
        after = s.after;
        parts = s.parts;
        whole = s.whole;
        number = ap (λ (z : List ℕ). count_by is_line_feed z + 1) at;
        begins = (s.begins.value, s.begins.valid, s.begins.more, s.begins.is);
        bad = λ next rest is begun. s.bad next rest is (record { value = begun.0; valid = begun.1; more = begun.2; is = begun.3 });
        no_text = none;
      }

  -- where reading stops
  stop_of : (bytes : List ℕ) (left : ℕ) → cert_at feed times bytes ≡ Err left → Stops (cert_text feed times) (IsWritten feed times) bytes left
  unfolding cert_at
  stop_of bytes left e = by (bind_err (begun_at feed times bytes) ended left e)
    where
      -- more stands after a certificate
      after_end : (c : Cert) (rest : List ℕ) → begun_at feed times bytes ≡ Ok (c, rest) → (t : Bool) → eqb (length rest) 0 ≡ t → cond t (Ok c) (Err (length rest)) ≡ Err left
          → Stops (cert_text feed times) (IsWritten feed times) bytes left
      after_end c rest is true t-is e = absurd (ok_not_err (done c) c left refl e)
      after_end c rest is false t-is e =
          let read = begun_reads.sound bytes c rest is in
          record {
            before = cert_text feed times c;
            after = rest;
            parts = read.1;
            left_is = err_same (length rest) left e;
            whole = begun_reads.lines c read.0;
            begins = record { value = c; valid = read.0; more = []; is = sym (append-nil (cert_text feed times c)) };
            bad = λ next later next-is begun.
                let more = alike c begun.value ((next ++ 10 ∷ []) ++ begun.more) read.0 begun.valid (begun.is ∙ append_assoc (cert_text feed times c) (next ++ 10 ∷ []) begun.more) in
                not_nil next begun.more more;
          }

      by : (begun_at feed times bytes ≡ Err left) ⊎ ((x : Cert × List ℕ) × (begun_at feed times bytes ≡ Ok x) × (ended x ≡ Err left)) → Stops (cert_text feed times) (IsWritten feed times) bytes left
      by (inl h) = begun_reads.stops bytes left h
      by (inr h) = after_end h.0.0 h.0.1 h.1 (eqb (length h.0.1) 0) refl h.2

  pub cert_left : (bytes : List ℕ) (left : ℕ) → cert_at feed times bytes ≡ Err left → left ≤ length bytes
  cert_left bytes left e =
      let s = stop_of bytes left e in
      let whole = ap (λ (z : List ℕ). length z) s.parts in
      omega (arith, whole, length-append s.before s.after, s.left_is)

  pub cert_stops : (bytes : List ℕ) (left : ℕ) → cert_at feed times bytes ≡ Err left → IsSyntaxFault feed times bytes (count_by is_line_feed (take (length bytes - left) bytes) + 1)
  cert_stops bytes left e = stops_at bytes left (stop_of bytes left e) (λ cert valid is. ok_not_err (cert_at feed times bytes) cert left (ap (cert_at feed times) is ∙ cert_complete cert valid) e)
