-- The text of a refusal of a part of a certificate: one line of words, this project's own format.
-- Words are parted by one space, ids stand in their escaped form, dates as YYYYMMDD, moments as
-- YYYY-MM-DDTHH:MM:SSZ, numbers in decimal digits. Parts, answers, the rides of an answer, and
-- labels count from 1, labels through all rounds.
use Rattle.std.specs.Prelude.{ℕ, ◌+◌, Bool, List, [], ◌∷◌, length, drop, slice_get, codes, decimal}
use Rattle.std.specs.Option.{option_map_or}
use Rattle.bound_cert.specs.declared.cert.CertPart.{CertPart}
use Rattle.cert_check.specs.declared.reason.Reason.{Reason}
use Rattle.cert_check.specs.declared.reason.Reason.TheVariants.{Query, Rounds, Journey, TripleDiffers, NotOrdered, Beaten, LabelPlace, FinalUncovered, Uncovered}
use Rattle.field_text.specs.Texts.{IsPrintableMoment, moment_text}
use Rattle.flex_model.specs.declared.answer.Triple.{Triple}
use Rattle.flex_model.specs.declared.feed.Feed.{Feed}
use Rattle.flex_model.specs.declared.flaw.JourneyFlaw.{JourneyFlaw}
use Rattle.flex_model.specs.declared.flaw.JourneyFlaw.TheVariants as journey
use Rattle.flex_model.specs.declared.flaw.RideFlaw.{RideFlaw}
use Rattle.flex_model.specs.declared.flaw.RideFlaw.TheVariants.{NoTrip, NoRow, NoDay, NotActive, Frequent, NotBoarded, NotAlighted, WrongDeparture, NoDirect, WrongArrival}
use Rattle.flex_model.specs.declared.query.Query.{Query as TheQuery}
use Rattle.flex_model.specs.declared.ride.Ride.{Ride}
use Rattle.flex_model.specs.declared.times.Times.{Times}
use Rattle.query_io.specs.AnswerText.{deadline_text, line, word_if, words_on_trip}
use Rattle.query_io.specs.Printable.{IsPrintableDeadline, IsPrintableRide}

-- the word for the test that a ride fails
abbrev pub ride_flaw_word : RideFlaw → List ℕ
ride_flaw_word NoTrip = codes "NO_TRIP"
ride_flaw_word NoRow = codes "NO_ROW"
ride_flaw_word NoDay = codes "NO_DAY"
ride_flaw_word NotActive = codes "NOT_ACTIVE"
ride_flaw_word Frequent = codes "FREQUENT"
ride_flaw_word NotBoarded = codes "NOT_BOARDED"
ride_flaw_word NotAlighted = codes "NOT_ALIGHTED"
ride_flaw_word WrongDeparture = codes "WRONG_DEPARTURE"
ride_flaw_word NoDirect = codes "NO_DIRECT"
ride_flaw_word WrongArrival = codes "WRONG_ARRIVAL"

-- the words for the test that the rides of an answer fail, with the number of the ride that is
-- tried
abbrev pub journey_flaw_words : JourneyFlaw → List (List ℕ)
journey_flaw_words journey.NoRide = codes "NO_RIDE" ∷ []
journey_flaw_words journey.TooManyRides = codes "TOO_MANY_RIDES" ∷ []
journey_flaw_words (journey.Ride n flaw) =
    codes "RIDE" ∷ decimal n ∷ ride_flaw_word flaw ∷ []
journey_flaw_words (journey.NotBookable n) = codes "NOT_BOOKABLE" ∷ decimal n ∷ []
journey_flaw_words journey.NoAccess = codes "NO_ACCESS" ∷ []
journey_flaw_words (journey.NoChange n) = codes "NO_CHANGE" ∷ decimal n ∷ []
journey_flaw_words (journey.TooEarly n) = codes "TOO_EARLY" ∷ decimal n ∷ []
journey_flaw_words journey.NoEgress = codes "NO_EGRESS" ∷ []
journey_flaw_words journey.TooLate = codes "TOO_LATE" ∷ []

-- DEADLINE ARRIVAL TRANSFERS, and WALK for a query that asks for walking
abbrev pub triple_words : Bool → Triple → List (List ℕ)
triple_words walking triple =
    deadline_text triple.deadline ∷ moment_text triple.arrival ∷ decimal triple.transfers
    ∷ word_if walking (decimal triple.walk)

-- the words that the line of a ride has after `ride`: TRIP DATE FROM TO PLACE PLACE DEPARTS
-- ARRIVES, and START where the ride has a start
abbrev pub words_of_ride : Feed → Times → Ride → List (List ℕ)
words_of_ride feed times ride =
    option_map_or (λ trip. drop 1 (words_on_trip feed times ride trip))
    (slice_get feed.trips ride.trip) []

-- the words of a reason: its name, the number of what is tried, and what is wrong with it
abbrev pub reason_words : Feed → Times → TheQuery → CertPart → Reason → List (List ℕ)
reason_words feed times query part Query = codes "QUERY" ∷ []
reason_words feed times query part Rounds =
    codes "ROUNDS" ∷ decimal (length part.rounds) ∷ decimal (query.transfers + 1) ∷ []
reason_words feed times query part (Journey n flaw) =
    codes "JOURNEY" ∷ decimal n ∷ journey_flaw_words flaw
reason_words feed times query part (TripleDiffers n told real) =
    codes "TRIPLE" ∷ decimal n ∷ triple_words query.walking real
reason_words feed times query part (NotOrdered n) = codes "ORDER" ∷ decimal n ∷ []
reason_words feed times query part (Beaten n m) = codes "BEATEN" ∷ decimal n ∷ decimal m ∷ []
reason_words feed times query part (LabelPlace n) = codes "LABEL" ∷ decimal n ∷ []
reason_words feed times query part (FinalUncovered n) = codes "FINAL" ∷ decimal n ∷ []
reason_words feed times query part (Uncovered n ride) =
    codes "UNCOVERED" ∷ decimal n ∷ words_of_ride feed times ride

-- refused PART, and the words of the reason
abbrev pub refused_line : ℕ → List (List ℕ) → List ℕ
refused_line number words = line (codes "refused" ∷ decimal number ∷ words)

-- the line by which the part with this number is refused
abbrev pub refusal_line : Feed → Times → TheQuery → CertPart → ℕ → Reason → List ℕ
refusal_line feed times query part number reason =
    refused_line number (reason_words feed times query part reason)

-- what the reason names has a text: moments of the years 1980 to 2209, and a ride that exists
abbrev pub IsPrintableReason : Feed → Times → Reason → Type 0
IsPrintableReason feed times Query = Unit {0}
IsPrintableReason feed times Rounds = Unit {0}
IsPrintableReason feed times (Journey n flaw) = Unit {0}
IsPrintableReason feed times (TripleDiffers n told real) =
    IsPrintableDeadline real.deadline × IsPrintableMoment real.arrival
IsPrintableReason feed times (NotOrdered n) = Unit {0}
IsPrintableReason feed times (Beaten n m) = Unit {0}
IsPrintableReason feed times (LabelPlace n) = Unit {0}
IsPrintableReason feed times (FinalUncovered n) = Unit {0}
IsPrintableReason feed times (Uncovered n ride) = IsPrintableRide feed times ride
