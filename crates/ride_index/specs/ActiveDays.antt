-- On which travel days the services of a feed are active, as a table.
--
-- The table has 22 flags a service, in the order of the services, and for each of them one a travel
-- day. This project's own.
use Rattle.std.specs.Prelude.{◌≡◌, ℕ, ◌+◌, ◌*◌, ◌<◌, ℤ, pos, ◌+ℤ◌, Bool, List, Some, map, slice_get}
use Rattle.std.specs.List.{range_with_len}
use Rattle.flex_model.specs.declared.feed.Feed.{Feed}
use Rattle.flex_model.specs.declared.moment.DayTable.{DayTable}
use Rattle.flex_model.specs.declared.service.Service.{Service}
use Rattle.flex_model.specs.ServiceDay.{is_active}
use Rattle.ride_index.specs.declared.active_days.ActiveDays.{ActiveDays}

-- the table says of each service on which of the travel days it is active
abbrev pub AreActiveDays : Feed → DayTable → ActiveDays → Type 0
AreActiveDays feed days table =
    (s k : ℕ) (service : Service) → slice_get feed.services s ≡ Some service → k < 22
    → slice_get table.flags (22 * s + k)
    ≡ Some (is_active service (days.first +ℤ pos (1504 + k)))

-- whether the service is active on each of so many days from the first on
unfoldable pub active_flags : Service → ℤ → ℕ → List Bool
active_flags service first count =
    map (λ k. is_active service (first +ℤ pos k)) (range_with_len 0 count)
