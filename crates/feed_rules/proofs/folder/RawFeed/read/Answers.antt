use Rattle.std.proofs.Common.{subst}
use Rattle.std.proofs.lemmas.Result.{err_from_is_err_and}
use Rattle.flex_model.specs.declared.fault.InputFile.TheVariants.{Agency, Stops, Routes, Trips, StopTimes, Calendar, CalendarDates, Locations, LocationGroups, LocationGroupStops, BookingRules, Transfers, Frequencies}
use Rattle.feed_meaning.specs.Told.{IsWithin}
use Rattle.feed_rules.specs.Folders.{folder_of}
use Rattle.feed_rules.specs.Found.{IsFound}
use Rattle.feed_rules.specs.Zones.{AreFoundZones}
use Rattle.feed_rules.proofs.FolderFacts.{reads_each}
use Rattle.feed_rules.proofs.folder.RawFeed.read.Goals as goal

pub read_file-requires : goal.read_file-requires
read_file-requires c = c.bytes.invariant.agency-within

pub read_file-requires-2 : goal.read_file-requires-2
read_file-requires-2 c = c.bytes.invariant.stops-within

pub read_file-requires-3 : goal.read_file-requires-3
read_file-requires-3 c = c.bytes.invariant.routes-within

pub read_file-requires-4 : goal.read_file-requires-4
read_file-requires-4 c = c.bytes.invariant.trips-within

pub read_file-requires-5 : goal.read_file-requires-5
read_file-requires-5 c = c.bytes.invariant.stop_times-within

pub read_file-requires-6 : goal.read_file-requires-6
read_file-requires-6 c = c.bytes.invariant.calendar-within

pub read_file-requires-7 : goal.read_file-requires-7
read_file-requires-7 c = c.bytes.invariant.calendar_dates-within

pub find_zones-requires : goal.find_zones-requires
find_zones-requires c = c.bytes.invariant.locations-within

pub read_file-requires-8 : goal.read_file-requires-8
read_file-requires-8 c = c.bytes.invariant.location_groups-within

pub read_file-requires-9 : goal.read_file-requires-9
read_file-requires-9 c = c.bytes.invariant.location_group_stops-within

pub read_file-requires-10 : goal.read_file-requires-10
read_file-requires-10 c = c.bytes.invariant.booking_rules-within

pub read_file-requires-11 : goal.read_file-requires-11
read_file-requires-11 c = c.bytes.invariant.transfers-within

pub read_file-requires-12 : goal.read_file-requires-12
read_file-requires-12 c = c.bytes.invariant.frequencies-within

pub returns-in_err-read_file-12 : goal.returns-in_err-read_file-12
returns-in_err-read_file-12 c =
    let p = err_from_is_err_and c.from_residual-in_err-read_file-12.result c.from_residual-in_err-read_file-12.ensures.1 in
    rw (p.1) tt

pub returns : goal.returns
returns c = reads_each _ (folder_of c.args.bytes.now) (record {
  agency = subst (λ raws. IsFound (folder_of raws Agency) c.in_ok-read_file.field-0) c.bytes.view_is c.in_ok-read_file.ensures;
  stops = subst (λ raws. IsFound (folder_of raws Stops) c.in_ok-read_file-2.field-0) c.bytes.view_is c.in_ok-read_file-2.ensures;
  routes = subst (λ raws. IsFound (folder_of raws Routes) c.in_ok-read_file-3.field-0) c.bytes.view_is c.in_ok-read_file-3.ensures;
  trips = subst (λ raws. IsFound (folder_of raws Trips) c.in_ok-read_file-4.field-0) c.bytes.view_is c.in_ok-read_file-4.ensures;
  stop_times = subst (λ raws. IsFound (folder_of raws StopTimes) c.in_ok-read_file-5.field-0) c.bytes.view_is c.in_ok-read_file-5.ensures;
  calendar = subst (λ raws. IsFound (folder_of raws Calendar) c.in_ok-read_file-6.field-0) c.bytes.view_is c.in_ok-read_file-6.ensures;
  calendar_dates = subst (λ raws. IsFound (folder_of raws CalendarDates) c.in_ok-read_file-7.field-0) c.bytes.view_is c.in_ok-read_file-7.ensures;
  zones = subst (λ raws. AreFoundZones (folder_of raws Locations) c.in_ok-find_zones.field-0) c.bytes.view_is c.in_ok-find_zones.ensures;
  counted = subst (λ raws. IsWithin 4294967295 (folder_of raws Locations)) c.bytes.view_is c.bytes.invariant.locations-within;
  location_groups = subst (λ raws. IsFound (folder_of raws LocationGroups) c.in_ok-read_file-8.field-0) c.bytes.view_is c.in_ok-read_file-8.ensures;
  location_group_stops = subst (λ raws. IsFound (folder_of raws LocationGroupStops) c.in_ok-read_file-9.field-0) c.bytes.view_is c.in_ok-read_file-9.ensures;
  booking_rules = subst (λ raws. IsFound (folder_of raws BookingRules) c.in_ok-read_file-10.field-0) c.bytes.view_is c.in_ok-read_file-10.ensures;
  transfers = subst (λ raws. IsFound (folder_of raws Transfers) c.in_ok-read_file-11.field-0) c.bytes.view_is c.in_ok-read_file-11.ensures;
  frequencies = subst (λ raws. IsFound (folder_of raws Frequencies) c.in_ok-read_file-12.field-0) c.bytes.view_is c.in_ok-read_file-12.ensures;
})
