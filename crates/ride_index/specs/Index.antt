-- The index of a feed, by which the rides from a place are found.
--
-- This project's own.
use Rattle.flex_model.specs.declared.feed.Feed.{Feed}
use Rattle.ride_index.specs.declared.index.RideIndex.{RideIndex}
use Rattle.ride_index.specs.declared.departure.DepartureKind.TheVariants.{AtStarts, BesideWindow, GroupWindow, Once, StopWindow, ZoneWindow}
use Rattle.ride_index.specs.Departures.{HasDepartures}
use Rattle.ride_index.specs.Members.{HasGroupStops, HasMembers, HasZoneStops}

-- the index has the departures of the feed, apart by their kinds, and the stops of groups and zones
pub record IsIndexOf (feed : Feed) (index : RideIndex) : Type 0 where
  pub once : HasDepartures feed Once index.once
  pub at_starts : HasDepartures feed AtStarts index.at_starts
  pub beside_windows : HasDepartures feed BesideWindow index.beside_windows
  pub stop_windows : HasDepartures feed StopWindow index.stop_windows
  pub group_windows : HasDepartures feed GroupWindow index.group_windows
  pub zone_windows : HasDepartures feed ZoneWindow index.zone_windows
  pub group_members : HasMembers (HasGroupStops feed) index.group_members
  pub zone_members : HasMembers (HasZoneStops feed) index.zone_members
