use Rattle.std.proofs.Common.{◌≡◌, ◌<◌, ℕ, Option, Some, None, List, length, sym, ◌∙◌}
use Rattle.std.specs.Prelude.{IfSome}
use Rattle.std.specs.Str.{bytes_eq}
use Rattle.std.proofs.lemmas.List.Quantifiers.{position-Some}
use Rattle.field_text.specs.Grammars.{escape}
use Rattle.flex_model.specs.declared.feed.Feed.{Feed}
use Rattle.flex_model.specs.declared.trip.Trip.{Trip}
use Rattle.query_io.specs.Lines.{trip_in}
use Rattle.bound_cert.proofs.KnownIds.{found_in}
use Rattle.bound_cert.proofs.PlaceLines.{no_trip}
use Rattle.bound_cert.proofs.known.trip_of.Goals as goal

within : (feed : Feed) (text : List ℕ) (o : Option ℕ) → o ≡ trip_in feed text → IfSome o (λ k. k < length feed.trips)
within feed text None is = tt
within feed text (Some k) is = (position-Some (λ trip. bytes_eq text (escape trip.id)) feed.trips k no_trip (sym is)).0

pub returns-clause-trip : goal.returns-clause-trip
returns-clause-trip c =
    c.index_of.ensures ∙ found_in (λ (trip : Trip). trip.id) c.args.known.now.feed.now.trips c.args.known.now.trips c.args.text.now c.requires.trips

pub returns-clause-within : goal.returns-clause-within
returns-clause-within c =
    within c.args.known.now.feed.now c.args.text.now c.index_of.result
    (c.index_of.ensures ∙ found_in (λ (trip : Trip). trip.id) c.args.known.now.feed.now.trips c.args.known.now.trips c.args.text.now c.requires.trips)
