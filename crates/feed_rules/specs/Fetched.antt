-- The files of a feed as they were fetched.
use Rattle.flex_model.specs.declared.fault.RawFile.{RawFile}
use Rattle.feed_meaning.specs.Told.{IsWithin}

-- files whose bytes can be counted in 32 bits
pub record AreCounted
    (agency stops routes trips stop_times calendar calendar_dates locations location_groups
    location_group_stops booking_rules transfers frequencies : RawFile) : Type 0 where
  pub agency-within : IsWithin 4294967295 agency
  pub stops-within : IsWithin 4294967295 stops
  pub routes-within : IsWithin 4294967295 routes
  pub trips-within : IsWithin 4294967295 trips
  pub stop_times-within : IsWithin 4294967295 stop_times
  pub calendar-within : IsWithin 4294967295 calendar
  pub calendar_dates-within : IsWithin 4294967295 calendar_dates
  pub locations-within : IsWithin 4294967295 locations
  pub location_groups-within : IsWithin 4294967295 location_groups
  pub location_group_stops-within : IsWithin 4294967295 location_group_stops
  pub booking_rules-within : IsWithin 4294967295 booking_rules
  pub transfers-within : IsWithin 4294967295 transfers
  pub frequencies-within : IsWithin 4294967295 frequencies
