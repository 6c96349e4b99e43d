-- The text of an answer: lines of words, this project's own format. Ids stand in their escaped
-- form, dates as YYYYMMDD, moments as YYYY-MM-DDTHH:MM:SSZ, numbers in decimal digits.
use Rattle.std.specs.Prelude.{ℕ, Bool, if◌then◌else◌, List, [], ◌∷◌, ◌++◌, Option, None, Some, length, slice_get, codes, decimal}
use Rattle.std.specs.List.{flat_map, join_with_byte}
use Rattle.std.specs.Option.{option_map_or}
use Rattle.flex_model.specs.declared.answer.Answer.{Answer}
use Rattle.flex_model.specs.declared.answer.Triple.{Triple}
use Rattle.flex_model.specs.declared.feed.Feed.{Feed}
use Rattle.flex_model.specs.declared.moment.Deadline.{Deadline}
use Rattle.flex_model.specs.declared.moment.Deadline.TheVariants.{At, Never}
use Rattle.flex_model.specs.declared.place.Place.{Place}
use Rattle.flex_model.specs.declared.place.Place.TheVariants.{Stop, Point}
use Rattle.flex_model.specs.declared.query.Query.{Query}
use Rattle.flex_model.specs.declared.ride.Ride.{Ride}
use Rattle.flex_model.specs.declared.times.Times.{Times}
use Rattle.flex_model.specs.declared.trip.Trip.{Trip}
use Rattle.field_text.specs.Grammars.{escape}
use Rattle.field_text.specs.Texts.{date_text, moment_text}

-- words parted by one space, and one line feed
abbrev pub line : List (List ℕ) → List ℕ
line words = join_with_byte 32 words ++ 10 ∷ []

-- a last word that stands only where it is wanted
abbrev pub word_if : Bool → List ℕ → List (List ℕ)
word_if wanted word = if wanted then word ∷ [] else []

abbrev pub deadline_text : Deadline → List ℕ
deadline_text (At moment) = moment_text moment
deadline_text Never = codes "never"

-- the escaped id of a stop or a point
abbrev pub place_text : Feed → Times → Place → List ℕ
place_text feed times (Stop s) =
    escape (option_map_or (λ stop. stop.id) (slice_get feed.stops s) [])
place_text feed times (Point p) =
    escape (option_map_or (λ point. point.id) (slice_get times.points p) [])

-- the stop_sequence of a trip's record
abbrev pub sequence_text : Trip → ℕ → List ℕ
sequence_text trip r = decimal (option_map_or (λ row. row.sequence) (slice_get trip.rows r) 0)

-- the start of a ride on a trip that frequencies.txt names, and no word of any other
abbrev pub start_words : Option ℕ → List (List ℕ)
start_words None = []
start_words (Some start) = decimal start ∷ []

-- ride TRIP DATE FROM TO PLACE PLACE DEPARTS ARRIVES, and START where the ride has a start: the
-- service day, the stop_sequence of both records, and the seconds of the service day at which the
-- trip starts
abbrev pub words_on_trip : Feed → Times → Ride → Trip → List (List ℕ)
words_on_trip feed times ride trip =
    codes "ride" ∷ escape trip.id ∷ date_text ride.day
    ∷ sequence_text trip ride.from_row ∷ sequence_text trip ride.to_row
    ∷ place_text feed times ride.board ∷ place_text feed times ride.alight
    ∷ moment_text ride.departs ∷ moment_text ride.arrives
    ∷ start_words ride.start

abbrev pub ride_line : Feed → Times → Ride → List ℕ
ride_line feed times ride =
    option_map_or (λ trip. line (words_on_trip feed times ride trip))
    (slice_get feed.trips ride.trip) []

-- journey DEADLINE ARRIVAL TRANSFERS, and WALK for a query that asks for walking
abbrev pub journey_line : Bool → Triple → List ℕ
journey_line walking triple =
    line (codes "journey" ∷ deadline_text triple.deadline ∷ moment_text triple.arrival
    ∷ decimal triple.transfers ∷ word_if walking (decimal triple.walk))

-- the line of a journey, and a line for each ride
abbrev pub journey_lines : Feed → Times → Bool → Answer → List ℕ
journey_lines feed times walking answer =
    journey_line walking answer.triple ++ flat_map (ride_line feed times) answer.rides

-- query ID COUNT, and the word walking where the query asks for walking
abbrev pub query_line : Bool → List ℕ → ℕ → List ℕ
query_line walking id count =
    line (codes "query" ∷ escape id ∷ decimal count ∷ word_if walking (codes "walking"))

-- the line of a query that has this id, and the lines of each journey
unfoldable pub named_answers_text : Feed → Times → Bool → List ℕ → List Answer → List ℕ
named_answers_text feed times walking id answers =
    query_line walking id (length answers) ++ flat_map (journey_lines feed times walking) answers

-- the line of the query, and the lines of each journey
abbrev pub answer_text : Feed → Times → Query → List Answer → List ℕ
answer_text feed times query answers =
    named_answers_text feed times query.walking query.id answers
