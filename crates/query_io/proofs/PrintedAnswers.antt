-- Exact answers have printed texts.
use Rattle.std.proofs.Common.{◌≡◌, ◌≢◌, ℕ, ◌+◌, ◌-◌, ◌*◌, ◌^◌, ◌<◌, ◌≤◌, Bool, true, false, ℤ, pos, ◌+ℤ◌, ◌≤ℤ◌, List, [], Option, None, Some, All, Contains, get_or, length, map, slice_get, sym, ◌∙◌, ap, subst, mul-le-mul_right, arith}
use Rattle.std.specs.Prelude.{if◌then◌else◌, is_some}
use Rattle.std.specs.Option.{option_map}
use Rattle.std.proofs.lemmas.Int.{ints}
use Rattle.std.proofs.lemmas.List.{get_or_default}
use Rattle.std.proofs.lemmas.List.Elements.{All-map}
use Rattle.std.proofs.lemmas.Option.{get_or_from_slice_get, slice_get-map, slice_get_within}
use Rattle.field_text.specs.Texts.{IsPrintableDay, IsPrintableMoment}
use Rattle.flex_model.specs.declared.answer.Answer.{Answer}
use Rattle.flex_model.specs.declared.feed.Feed.{Feed}
use Rattle.flex_model.specs.declared.moment.DayTable.{DayTable}
use Rattle.flex_model.specs.declared.moment.Deadline.{Deadline}
use Rattle.flex_model.specs.declared.moment.Deadline.TheVariants.{At, Never}
use Rattle.flex_model.specs.declared.place.Place.{Place}
use Rattle.flex_model.specs.declared.place.Place.TheVariants as place
use Rattle.flex_model.specs.declared.place.Point.{Point}
use Rattle.flex_model.specs.declared.place.Stop.{Stop}
use Rattle.flex_model.specs.declared.query.Query.{Query}
use Rattle.flex_model.specs.declared.ride.Ride.{Ride}
use Rattle.flex_model.specs.declared.times.Times.{Times}
use Rattle.flex_model.specs.declared.trip.Spot.{Spot}
use Rattle.flex_model.specs.declared.trip.Spot.TheVariants as spot
use Rattle.flex_model.specs.declared.trip.Trip.{Trip}
use Rattle.flex_model.specs.declared.answer.Triple.{Triple}
use Rattle.flex_model.specs.Booking.{IsDeadline}
use Rattle.flex_model.specs.Journey.{Attains, IsPermittedJourney, IsUsable, limit}
use Rattle.flex_model.specs.Place.{Serves}
use Rattle.flex_model.specs.Ride.{IsPermittedRide, StartsRightly}
use Rattle.flex_model.specs.ServiceDay.{IsTravelDay}
use Rattle.flex_model.specs.SoundFeed.{IsSoundFeed, IsSoundRow, IsSoundSpot, IsSoundTrip}
use Rattle.flex_model.specs.SoundQuery.{IsSoundDayTable, IsSoundQuery}
use Rattle.flex_model.specs.SoundTimes.{AreSoundTimes}
use Rattle.flex_model.proofs.Bounds.{deadlines_in_time, few_answers, journeys_in_time}
use Rattle.flex_model.proofs.Found.{All-at, index_of}
use Rattle.flex_model.proofs.Walks.{short_walks, uncounted_nothing}
use Rattle.query_io.specs.Printable.{IsPrintableAnswer, IsPrintableDeadline, IsPrintablePlace, IsPrintableRide}
use Rattle.query_io.specs.PrintableAnswers.{ExactAnswersArePrintable}

-- where no id is empty, that of an item isn't
id_given : {A : Type 0} (id : A → List ℕ) (items : List A) (k : ℕ) (item : A) → All (λ name. name ≢ []) (map id items) → slice_get items k ≡ Some item → id item ≢ []
id_given id items k item all e = All-at (λ name. name ≢ []) (map id items) k (id item) all (slice_get-map id items k ∙ ap (option_map id) e)

travel_day_printed : (days : DayTable) (day : ℤ) → IsSoundDayTable days → IsTravelDay days day → IsPrintableDay day
travel_day_printed days day sound travel =
    let count = sound.count in
    let low = sound.low in
    let high = sound.high in
    let within : travel.0 < length days.base = travel.1 in
    let e : day ≡ days.first +ℤ pos travel.0 = travel.3 in
    record { low = omega (arith, ints); high = omega (arith, ints) }

-- the answers are no more than fit a count
few_enough : (transfers horizon answers : ℕ) → transfers ≤ 7 → horizon ≤ 2880
    → answers ≤ (transfers + 1) * ((60 * horizon + 1) * (777600 + 1)) → answers < 2 ^ 64
few_enough transfers horizon answers t h few =
    let wide : (transfers + 1) * ((60 * horizon + 1) * (777600 + 1)) ≤ 8 * ((60 * horizon + 1) * (777600 + 1)) = mul-le-mul_right ((60 * horizon + 1) * (777600 + 1)) (omega arith) in
    omega arith

-- a ride that starts rightly has a start just where frequencies.txt names its trip
start_told : (trip : Trip) (start : Option ℕ) → StartsRightly trip start → is_some start ≡ trip.frequent
start_told trip None never = sym never
start_told trip (Some start) starts = sym starts.0

counted_low : (walking : Bool) (seconds : ℕ) → (if walking then seconds else 0) ≤ seconds
counted_low true seconds = omega arith
counted_low false seconds = omega arith

module _ (feed : Feed) (times : Times) (sound : IsSoundFeed feed) (sound_times : AreSoundTimes feed times) where
  stop_printed : (s : ℕ) (stop : Stop) → slice_get feed.stops s ≡ Some stop → IsPrintablePlace feed times (place.Stop s)
  stop_printed s stop e = (stop, e, id_given (λ (stop : Stop). stop.id) feed.stops s stop sound.stops.ids.given e)

  point_printed : (p : ℕ) (point : Point) → slice_get times.points p ≡ Some point → IsPrintablePlace feed times (place.Point p)
  point_printed p point e = (point, e, id_given (λ (point : Point). point.id) times.points p point sound_times.ids.given e)

  -- a place that a record serves
  served_printed : (at : Spot) (p : Place) → IsSoundSpot feed at → Serves feed times at p → IsPrintablePlace feed times p
  served_printed (spot.Stop s) p boards e = subst (IsPrintablePlace feed times) (sym e) (stop_printed s boards.0 boards.1)
  served_printed (spot.Group g) (place.Stop s) known member = let boards = member.2.1 in stop_printed s boards.0 boards.1
  served_printed (spot.Group g) (place.Point p) known member = absurd member.2
  served_printed (spot.Zone z) (place.Stop s) known lies = let at = lies.3 in stop_printed s at.0 at.1
  served_printed (spot.Zone z) (place.Point p) known lies = let at = lies.3 in point_printed p at.0 at.1

  module _ (days : DayTable) (query : Query) (sound_days : IsSoundDayTable days) (sound_query : IsSoundQuery feed times query) where
    in_time_printed : (moment : ℤ) → query.depart ≤ℤ moment → moment ≤ℤ limit query → IsPrintableMoment moment
    in_time_printed moment low high =
        let departs = sound_query.depart in
        let horizon = sound_query.horizon in
        record { low = omega (arith, ints); high = omega (arith, ints) }

    pub ride_printed : (ride : Ride) → IsPermittedRide feed times days ride → IsPrintableMoment ride.departs → IsPrintableMoment ride.arrives → IsPrintableRide feed times ride
    ride_printed ride permitted departs arrives =
        let trip = permitted.trip in
        let rows = (All-at (IsSoundTrip feed) feed.trips ride.trip trip sound.each_trip permitted.of_trip).rows in
        let boarding = All-at (IsSoundRow feed) trip.rows ride.from_row permitted.boarding rows permitted.at_boarding in
        let alighting = All-at (IsSoundRow feed) trip.rows ride.to_row permitted.alighting rows permitted.at_alighting in
        record {
          trip = trip;
          of_trip = permitted.of_trip;
          id = id_given (λ trip. trip.id) feed.trips ride.trip trip sound.trips.ids.given permitted.of_trip;
          day = travel_day_printed days ride.day sound_days permitted.on_travel_day;
          from = slice_get_within trip.rows ride.from_row permitted.boarding permitted.at_boarding;
          to = slice_get_within trip.rows ride.to_row permitted.alighting permitted.at_alighting;
          board = served_printed permitted.boarding.spot ride.board boarding.«spot» permitted.boards;
          alight = served_printed permitted.alighting.spot ride.alight alighting.«spot» permitted.alights;
          departs = departs;
          arrives = arrives;
          starts = start_told trip ride.start permitted.starts;
        }

    module _ (rides : List Ride) (journey : IsPermittedJourney feed times days query rides) where
      usable : (ride : Ride) → Contains rides ride → IsUsable feed times days query ride
      usable ride among = let at = index_of rides ride among in All-at (IsUsable feed times days query) rides at.0 ride journey.itinerary.usable at.1

      journey_ride_printed : (ride : Ride) → Contains rides ride → IsPrintableRide feed times ride
      journey_ride_printed ride among =
          let in_time = journeys_in_time feed times days query rides ride sound journey among in
          let record { 0 = leaves; 1 = rides_on; 2 = ends } = in_time in
          ride_printed ride (usable ride among).permitted (in_time_printed ride.departs leaves (omega (arith, ints))) (in_time_printed ride.arrives (omega (arith, ints)) ends)

      deadline_printed : (ride : Ride) (deadline : Deadline) → Contains rides ride → IsDeadline feed days ride deadline → IsPrintableDeadline deadline
      deadline_printed ride Never among reached = tt
      deadline_printed ride (At moment) among reached =
          let by = deadlines_in_time feed days ride query.now moment (usable ride among).bookable reached in
          let record { 0 = leaves; 1 = rides_on; 2 = ends } = journeys_in_time feed times days query rides ride sound journey among in
          let asked = sound_query.now in
          let departs = sound_query.depart in
          let horizon = sound_query.horizon in
          let low : query.now ≤ℤ moment = by.0 in
          let high : moment ≤ℤ ride.departs = by.1 in
          record { low = omega (arith, ints); high = omega (arith, ints) }

    pub answer_printed : (answer : Answer) → Attains feed times days query answer.rides answer.triple → IsPrintableAnswer feed times query.walking answer
    answer_printed answer attains =
        let journey = attains.journey in
        let rides = answer.rides in
        let itinerary = journey.itinerary in
        let few : length rides ≤ query.transfers + 1 = itinerary.few in
        let asked = sound_query.transfers in
        let count : answer.triple.transfers + 1 ≡ length rides = attains.transfers in
        let last : slice_get rides (length rides - 1) ≡ Some journey.last = journey.is_last in
        let among : Contains rides journey.last = (length rides - 1, slice_get_within rides (length rides - 1) journey.last last, get_or_from_slice_get rides (length rides - 1) journey.last journey.last last) in
        let record { 0 = leaves; 1 = rides_on; 2 = ends } = journeys_in_time feed times days query rides journey.last sound journey among in
        let arrival : answer.triple.arrival ≡ journey.last.arrives +ℤ pos journey.seconds = attains.arrival in
        let by : (journey.last.arrives +ℤ pos journey.seconds) ≤ℤ limit query = journey.ends in
        let booked = attains.deadline in
        record {
          deadline = deadline_printed rides journey booked.ride answer.triple.deadline booked.among booked.reached;
          arrival = in_time_printed answer.triple.arrival (omega (arith, ints)) (omega (arith, ints));
          few = omega arith;
          count = sym count;
          rides = λ k d within. journey_ride_printed rides journey (get_or rides k d) (k, within, get_or_default rides k (get_or rides k d) d within);
          walk = λ asks. (uncounted_nothing feed times days query rides asks).0 answer.triple attains;
        }

    -- up to 8 rides and an egress take no more than 9 days on foot
    walk_short : (answer : Answer) → Attains feed times days query answer.rides answer.triple → answer.triple.walk ≤ 777600
    walk_short answer attains =
        let few : length answer.rides ≤ query.transfers + 1 = attains.journey.itinerary.few in
        let asked = sound_query.transfers in
        let short = (short_walks feed times days query sound sound_times).0 answer.rides answer.triple attains in
        let low = counted_low query.walking (86400 * (length answer.rides + 1)) in
        omega arith

pub exact_printable : ExactAnswersArePrintable
exact_printable feed times days query answers sound sound_times sound_days sound_query exact = record {
  id = sound_query.id;
  count = few_enough query.transfers query.horizon (length answers) sound_query.transfers sound_query.horizon
      (few_answers feed times days query answers 777600 sound exact
      (All-map (λ (triple : Triple). triple.walk ≤ 777600) (λ (answer : Answer). answer.triple) answers
      (λ k d within. walk_short feed times sound sound_times days query sound_days sound_query (get_or answers k d) (exact.attained k d within))));
  each = λ k d within. answer_printed feed times sound sound_times days query sound_days sound_query (get_or answers k d) (exact.attained k d within);
}
