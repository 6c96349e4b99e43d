-- What a search finds has printed texts: a partial journey is a journey to where it ends.
use Rattle.std.proofs.Common.{◌≡◌, inl, inr, ℕ, ◌+◌, ◌-◌, ◌^◌, ◌<◌, pos, ◌+ℤ◌, List, Some, All, get_or, length, map, slice_get, refl, sym, ◌∙◌, ap, subst, arith}
use Rattle.std.specs.Option.{option_map}
use Rattle.std.proofs.lemmas.Int.{ints}
use Rattle.std.proofs.lemmas.List.{length-map}
use Rattle.std.proofs.lemmas.Option.{slice_get-get_or, slice_get-map}
use Rattle.bound_cert.specs.declared.cert.CertLabel.{CertLabel}
use Rattle.bound_cert.specs.declared.cert.CertRound.{CertRound}
use Rattle.bound_cert.specs.Parts.{told_label, told_rounds}
use Rattle.bound_cert.specs.PrintableCert.{IsPrintableLabel, IsPrintableRound}
use Rattle.journey_rebuild.specs.PrintableParts.{FoundPartsArePrintable}
use Rattle.field_text.specs.Texts.{IsPrintableMoment}
use Rattle.flex_model.specs.declared.answer.Answer.{Answer}
use Rattle.flex_model.specs.declared.answer.Triple.{Triple}
use Rattle.flex_model.specs.declared.feed.Feed.{Feed}
use Rattle.flex_model.specs.declared.moment.DayTable.{DayTable}
use Rattle.flex_model.specs.declared.place.Place.{Place}
use Rattle.flex_model.specs.declared.place.Place.TheVariants.{Stop, Point}
use Rattle.flex_model.specs.declared.query.Query.{Query}
use Rattle.flex_model.specs.declared.ride.Ride.{Ride}
use Rattle.flex_model.specs.declared.times.Times.{Times}
use Rattle.flex_model.specs.Journey.{Attains, IsLabelPlace, Reaches, counted}
use Rattle.flex_model.specs.LabelTable.{AreFound, IsAttained, Label, pair_of}
use Rattle.flex_model.specs.SoundFeed.{IsSoundFeed}
use Rattle.flex_model.specs.SoundQuery.{IsQueryPlace, IsSoundDayTable, IsSoundQuery}
use Rattle.flex_model.specs.SoundTimes.{AreSoundTimes}
use Rattle.flex_model.proofs.Certificates.{certified_exact}
use Rattle.flex_model.proofs.Found.{All-at}
use Rattle.flex_model.proofs.Walks.{uncounted_nothing}
use Rattle.query_io.specs.Printable.{IsPrintableAnswer, IsPrintablePlace, IsPrintableRide}
use Rattle.query_io.proofs.PrintedAnswers.{answer_printed, exact_printable}

-- the query for the way to this place
abbrev query_to : Query → Place → Query
query_to query place = record query { destination = place }

module _ (feed : Feed) (times : Times) (days : DayTable) (query : Query) (sound : IsSoundFeed feed) (sound_times : AreSoundTimes feed times)
    (sound_days : IsSoundDayTable days) (sound_query : IsSoundQuery feed times query) where
  query_place : (place : Place) → IsLabelPlace feed query place → IsQueryPlace feed times place
  query_place (Stop s) (inl boards) = boards
  query_place (Stop s) (inr there) = subst (IsQueryPlace feed times) (sym there) sound_query.destination
  query_place (Point p) there = subst (IsQueryPlace feed times) (sym there) sound_query.destination

  sound_to : (place : Place) → IsLabelPlace feed query place → IsSoundQuery feed times (query_to query place)
  sound_to place allowed = record {
    id = sound_query.id;
    origin = sound_query.origin;
    destination = query_place place allowed;
    depart = sound_query.depart;
    now = sound_query.now;
    transfers = sound_query.transfers;
    some_time = sound_query.some_time;
    horizon = sound_query.horizon;
  }

  module _ (k : ℕ) (label : Label) (attained : IsAttained feed times days query (k + 1) label) where
    abbrev rides : List Ride
    rides = attained.0

    abbrev reaches : Reaches feed times days query rides label.place (pair_of label)
    reaches = attained.2

    abbrev place : Place
    place = reaches.journey.last.alight

    -- the journey to where it ends
    abbrev triple : Triple
    triple = record { deadline = label.deadline; arrival = reaches.journey.last.arrives +ℤ pos 0; transfers = k; walk = label.walk + counted (query_to query place) 0 }

    attains : Attains feed times days (query_to query place) rides triple
    attains =
        let partial = reaches.journey in
        let itinerary = partial.itinerary in
        let arrives = partial.arrives in
        record {
          journey = record {
            itinerary = record {
              few = itinerary.few;
              usable = λ i d within. record { permitted = (itinerary.usable i d within).permitted; bookable = (itinerary.usable i d within).bookable };
              first = itinerary.first;
              is_first = itinerary.is_first;
              starts = itinerary.starts;
              changes = itinerary.changes;
            };
            last = partial.last;
            is_last = partial.is_last;
            seconds = 0;
            egress = inl (refl, refl);
            ends = omega (arith, ints);
          };
          deadline = reaches.booked;
          arrival = refl;
          transfers = sym attained.1;
          walked = label.walk;
          walks = reaches.walks;
          walk = refl;
        }

    abbrev answer : Answer
    answer = record { triple = triple; rides = rides }

    printed : IsPrintableAnswer feed times query.walking answer
    printed = answer_printed feed times sound sound_times days (query_to query place) sound_days (sound_to place reaches.journey.place) answer attains

  printed_label : (k : ℕ) (label : CertLabel) → IsAttained feed times days query (k + 1) (told_label label) → IsPrintableLabel feed times query.walking label
  printed_label k label attained =
      let is = printed k (told_label label) attained in
      let reaches = attained.2 in
      let last = reaches.journey.last in
      let its = All-at (IsPrintableRide feed times) attained.0 (length attained.0 - 1) last is.rides reaches.journey.is_last in
      let arrives : last.arrives ≡ label.arrival = reaches.arrives in
      let same : last.arrives +ℤ pos 0 ≡ label.arrival = omega (arith, ints) in
      record {
        place = subst (IsPrintablePlace feed times) reaches.at_place its.alight;
        deadline = is.deadline;
        arrival = subst IsPrintableMoment same is.arrival;
        walk = λ asks. (uncounted_nothing feed times days query attained.0 asks).1 label.place (pair_of (told_label label)) reaches;
      }

  printed_round : (k : ℕ) (round : CertRound) → length round.labels < 2 ^ 64 → AreFound feed times days query (k + 1) (map told_label round.labels)
      → IsPrintableRound feed times query.walking round
  printed_round k round few found = record {
    count = few;
    labels = λ i d within.
        let label = get_or round.labels i d in
        let at : slice_get round.labels i ≡ Some label = slice_get-get_or round.labels i d within in
        printed_label k label (All-at (IsAttained feed times days query (k + 1)) (map told_label round.labels) i (told_label label) found.attained
        (slice_get-map told_label round.labels i ∙ ap (option_map told_label) at));
  }

pub found_printable : FoundPartsArePrintable
found_printable feed times days query part sound sound_times sound_days sound_query countable is =
    let exact = certified_exact feed times days query part.answers (told_rounds part) sound is.valid.certificate in
    let answers = exact_printable feed times days query part.answers sound sound_times sound_days sound_query exact in
    let rounds : CertRound → List Label = λ round. map told_label round.labels in
    let count : length part.rounds ≡ query.transfers + 1 = sym (length-map part.rounds rounds) ∙ is.valid.certificate.round_count in
    let few = sound_query.transfers in
    record {
      id = λ none. sound_query.id (sym is.valid.id ∙ none);
      answer_count = answers.count;
      answers = subst (λ walking. All (IsPrintableAnswer feed times walking) part.answers) (sym is.valid.walking) answers.each;
      round_count = omega arith;
      rounds = subst (λ walking. All (IsPrintableRound feed times walking) part.rounds) (sym is.valid.walking) (λ k d within.
          let round = get_or part.rounds k d in
          let at : slice_get part.rounds k ≡ Some round = slice_get-get_or part.rounds k d within in
          printed_round feed times days query sound sound_times sound_days sound_query k round (countable k d within)
          (is.found k (rounds round) (slice_get-map rounds part.rounds k ∙ ap (option_map rounds) at)));
    }
