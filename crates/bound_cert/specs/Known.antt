-- The places and trips of a feed and its times, by their escaped ids.
use Rattle.std.specs.Prelude.{◌≡◌, ℕ, List, map}
use Rattle.bound_cert.specs.declared.known.Escapes.{Escapes}
use Rattle.bound_cert.specs.declared.known.Known.{Known}
use Rattle.bound_cert.specs.LineWords.{has_place, has_ride}
use Rattle.field_text.specs.Grammars.{escape}
use Rattle.flex_model.specs.declared.feed.Feed.{Feed}
use Rattle.flex_model.specs.declared.times.Times.{Times}
use Rattle.flex_model.specs.SoundFeed.{IsSoundFeed}

abbrev pub stop_escapes : Feed → List (List ℕ)
stop_escapes feed = map (λ stop. escape stop.id) feed.stops

abbrev pub point_escapes : Times → List (List ℕ)
point_escapes times = map (λ point. escape point.id) times.points

abbrev pub trip_escapes : Feed → List (List ℕ)
trip_escapes feed = map (λ trip. escape trip.id) feed.trips

-- the escaped ids, in the order of their lists
pub record AreEscapes (feed : Feed) (times : Times) (escapes : Escapes) : Type 0 where
  pub stops : escapes.stops ≡ stop_escapes feed
  pub points : escapes.points ≡ point_escapes times
  pub trips : escapes.trips ≡ trip_escapes feed

-- an index of the escaped ids of a sound feed and its times
pub record IsKnown (known : Known) : Type 0 where
  pub sound : IsSoundFeed known.feed.now
  pub stops : known.stops ≡ stop_escapes known.feed.now
  pub points : known.points ≡ point_escapes known.times.now
  pub trips : known.trips ≡ trip_escapes known.feed.now
  pub places : known.has_places ≡ has_place known.feed.now known.times.now
  pub rides : known.has_rides ≡ has_ride known.feed.now known.times.now
