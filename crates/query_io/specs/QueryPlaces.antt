-- The ids by which the places of queries are found, and what finding one gives.
use Rattle.std.specs.Prelude.{◌≡◌, ℕ, List, None, Some, Result, Ok, Err, map}
use Rattle.flex_model.specs.declared.fault.FaultCode.{FaultCode}
use Rattle.flex_model.specs.declared.feed.Feed.{Feed}
use Rattle.flex_model.specs.declared.place.Place.{Place}
use Rattle.flex_model.specs.declared.times.Times.{Times}
use Rattle.flex_model.specs.SoundFeed.{IsSoundFeed}
use Rattle.feed_meaning.specs.QueryFaults.{place_rule}
use Rattle.feed_meaning.specs.TimesValue.{place_named}
use Rattle.query_io.specs.declared.query_places.PlaceIds.{PlaceIds}

-- the ids of the stops of a sound feed and of the points of its times, in their order
pub record ArePlaceIds (feed : Feed) (times : Times) (ids : PlaceIds) : Type 0 where
  pub sound : IsSoundFeed feed
  pub feed_is : ids.feed.now ≡ feed
  pub stops : ids.stops ≡ map (λ stop. stop.id) feed.stops
  pub points : ids.points ≡ map (λ point. point.id) times.points

-- the place that a text names, or its fault
abbrev pub IsPlaceRead : Feed → Times → List ℕ → Result Place FaultCode → Type 0
IsPlaceRead feed times text (Ok place) =
    (place_rule feed times text ≡ None) × (place ≡ place_named feed times.points text)
IsPlaceRead feed times text (Err code) = place_rule feed times text ≡ Some code
