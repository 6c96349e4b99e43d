use Rattle.std.proofs.Common.{Bor, Bool, ◌≡◌, ◌-◌, ◌∙◌, ℕ, List, [], Some, length, get_or, take, drop, refl, sym, ap}
use Rattle.flex_model.specs.declared.trip.Row.{Row}
use Rattle.field_text.specs.Grammars.{date, moment}
use Rattle.query_io.specs.Lines.{place_in, trip_in}
use Rattle.bound_cert.specs.LineWords.{◌>>=◌, is_frequent, ride_along, row_in, rows_of, start_in, stretch_from}
use Rattle.bound_cert.proofs.WordsTold.{on_trip, other_ride, ride_same, ride_told, short_ride, texts}
use Rattle.bound_cert.proofs.ride_values.ride_of.Goals as goal

-- what a pattern of words shows where there is no word
no_word : Bor (List ℕ)
no_word = record { ref_ptr = (0, 0); now = [] }

pub returns-in_default : goal.returns-in_default
returns-in_default c = short_ride c.args.known.now.feed.now c.args.known.now.times.now c.args.words.now c.in_default.len_below

pub returns-then-ne : goal.returns-then-ne
returns-then-ne c = other_ride c.args.known.now.feed.now c.args.known.now.times.now c.args.words.now _ c.in-len9-up.len_at_least c.if-ne.ensures

pub returns-in_default-trip_of : goal.returns-in_default-trip_of
unfolding no_word
returns-in_default-trip_of c =
    let feed = c.args.known.now.feed.now in
    let times = c.args.known.now.times.now in
    let told = ride_told feed times c.args.words.now no_word c.in-len9-up.len_at_least c.if-ne.ensures in
    ap (λ o. o >>= on_trip feed times c.args.words.now no_word) (sym c.in_default-trip_of.is ∙ c.trip_of.ensures.trip) ∙ sym told

pub returns : goal.returns
unfolding no_word
returns c =
    let feed = c.args.known.now.feed.now in
    let times = c.args.known.now.times.now in
    let ws = c.args.words.now in
    let k = c.in-Some.number in
    let trip = c.trip_at-trip.result.now in
    let day = (get_or ws 2 no_word).now in
    let from = (get_or ws 3 no_word).now in
    let to = (get_or ws 4 no_word).now in
    let last = texts (take (length ws - 9) (drop 9 ws)) in
    let told = ride_told feed times ws no_word c.in-len9-up.len_at_least c.if-ne.ensures in
    let number : trip_in feed (get_or ws 1 no_word).now ≡ Some k = sym c.trip_of.ensures.trip ∙ c.in-Some.is in
    let on : c.ride_on.result ≡ ride_along k (date day) (row_in trip.rows from) (row_in trip.rows to) c.stretch_of-stretch.result (start_in trip.frequent last) = c.ride_on.ensures in
    let stretch : c.stretch_of-stretch.result ≡ stretch_from (place_in feed times (get_or ws 5 no_word).now) (place_in feed times (get_or ws 6 no_word).now)
    (moment 1980 2209 (get_or ws 7 no_word).now) (moment 1980 2209 (get_or ws 8 no_word).now) = c.stretch_of-stretch.ensures in
    let rows : rows_of feed k ≡ trip.rows = c.trip_at-trip.ensures.rows in
    let frequent : is_frequent feed k ≡ trip.frequent = c.trip_at-trip.ensures.frequent in
    on
    ∙ ride_same feed times k (date day) (date day) (row_in trip.rows from) (row_in (rows_of feed k) from) (row_in trip.rows to) (row_in (rows_of feed k) to) c.stretch_of-stretch.result
    (stretch_from (place_in feed times (get_or ws 5 no_word).now) (place_in feed times (get_or ws 6 no_word).now) (moment 1980 2209 (get_or ws 7 no_word).now) (moment 1980 2209 (get_or ws 8 no_word).now))
    (start_in trip.frequent last) (start_in (is_frequent feed k) last)
    refl (ap (λ (r : List Row). row_in r from) (sym rows)) (ap (λ (r : List Row). row_in r to) (sym rows)) stretch (ap (λ (b : Bool). start_in b last) (sym frequent))
    ∙ ap (λ o. o >>= on_trip feed times ws no_word) (sym number) ∙ sym told
