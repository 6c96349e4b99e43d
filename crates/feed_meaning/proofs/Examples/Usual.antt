-- A feed as producers write it: byte order marks, CRLF line ends, columns that nothing reads, a station, a group of
-- stops, and a rule that is booked on the same day.
use Rattle.std.proofs.Common.{◌≡◌, pos, true, false, [], ◌∷◌, Some, refl}
use Rattle.std.specs.Prelude.{codes}
use Rattle.flex_model.specs.declared.booking.Notice.TheVariants.{Ahead}
use Rattle.flex_model.specs.declared.booking.SameDay.TheVariants.{Greatest}
use Rattle.flex_model.specs.declared.change.ChangeKind.TheVariants.{Least, Forbidden}
use Rattle.flex_model.specs.declared.fault.FaultCode.TheVariants as code
use Rattle.flex_model.specs.declared.fault.InputFile.TheVariants.{Agency, Stops, Routes, Trips, StopTimes, Calendar, CalendarDates, LocationGroups, LocationGroupStops, BookingRules, Transfers, Frequencies}
use Rattle.flex_model.specs.declared.fault.RawFile.{RawFile}
use Rattle.flex_model.specs.declared.fault.RawFile.TheVariants.{Absent, Bytes}
use Rattle.flex_model.specs.declared.trip.Spot.TheVariants as spot
use Rattle.flex_model.specs.declared.trip.Timing.TheVariants as timing
use Rattle.flex_model.specs.declared.trip.Way.TheVariants.{No, Book}
use Rattle.feed_meaning.specs.FeedFaults.{Geo, feed_faults}
use Rattle.feed_meaning.specs.FeedValue.{feed_of}
use Rattle.feed_meaning.specs.Folder.{Folder}
use Rattle.feed_meaning.specs.Tables.{fault}
use Rattle.feed_meaning.proofs.OnLiterals.{feed_on_literals}
use Prim.Native.String.{String}

abbrev geo : Geo
geo bytes = record { faults = []; features = [] }

-- with a byte order mark
abbrev marked : String → RawFile
marked text = Bytes (0xEF ∷ 0xBB ∷ 0xBF ∷ codes text)

abbrev usual : Folder
usual Agency = marked "agency_id,agency_name,agency_url,agency_timezone,agency_lang\r\n1,Dale Bus,http://localhost/,UTC,da\r\n"
usual Stops = marked "stop_id,stop_name,stop_lat,stop_lon,location_type,parent_station\r\nH,\"Hub, the\",,,1,\r\nM,Mill, 50.0 ,5.02,,H\r\nN,\"No\"\"rth\",50.0,5.03,0\r\n"
usual Routes = marked "route_id,agency_id,route_short_name,route_type\r\nR,1,10,3\r\n"
usual Trips = marked "route_id,service_id,trip_id,trip_headsign\r\nR,W,F,\r\n"
usual StopTimes = marked "trip_id,stop_sequence,location_group_id,start_pickup_drop_off_window,end_pickup_drop_off_window,pickup_type,drop_off_type,pickup_booking_rule_id,drop_off_booking_rule_id\r\nF,2,G,08:00:00,10:00:00,1,,,B\r\nF,1,G,8:00:00,10:00:00,2,1,B,\r\n"
usual Calendar = marked "service_id,monday,tuesday,wednesday,thursday,friday,saturday,sunday,start_date,end_date\r\nW,1,1,1,1,1,0,0,20250101,20251231\r\n"
usual CalendarDates = marked "service_id,date,exception_type\r\nW,20250604,2\r\nV,20250605,1\r\n"
usual LocationGroups = marked "location_group_id,location_group_name\r\nG,Dale\r\n"
usual LocationGroupStops = marked "location_group_id,stop_id\r\nG,N\r\nG,M\r\nG,N\r\n"
usual BookingRules = marked "booking_rule_id,booking_type,prior_notice_duration_min,prior_notice_duration_max,message,phone_number,info_url\r\nB,1,30,60,Call us,112,http://localhost/\r\n"
usual Transfers = marked "from_stop_id,to_stop_id,transfer_type,min_transfer_time,from_trip_id\r\nN,M,3,,\r\nH,M,2,60,\r\nM,N,2,,\r\nM,N,1,,F\r\n"
usual Frequencies = marked "trip_id,start_time,end_time,headway_secs,exact_times\r\nF,10:00:00,11:00:00,1200,\r\nF,08:00:00,09:00:00,600,1\r\n"
usual file = Absent

accepted : feed_faults geo usual ≡ []
unfolding feed_on_literals
accepted = refl

value : feed_of geo usual ≡ record {
  stops =
      (record { id = codes "H"; at = record { lon = pos 0; lat = pos 0 }; boards = false })
      ∷ (record { id = codes "M"; at = record { lon = pos 5020000000000000; lat = pos 50000000000000000 }; boards = true })
      ∷ (record { id = codes "N"; at = record { lon = pos 5030000000000000; lat = pos 50000000000000000 }; boards = true })
      ∷ [];
  zones = [];
  groups = (record { id = codes "G"; members = 1 ∷ 2 ∷ [] }) ∷ [];
  services =
      (record { id = codes "W"; flags = true ∷ true ∷ true ∷ true ∷ true ∷ false ∷ false ∷ []; first = pos 20089; last = pos 20453; added = []; removed = pos 20243 ∷ [] })
      ∷ (record { id = codes "V"; flags = false ∷ false ∷ false ∷ false ∷ false ∷ false ∷ false ∷ []; first = pos 1; last = pos 0; added = pos 20244 ∷ []; removed = [] })
      ∷ [];
  rules = (record { id = codes "B"; notice = Ahead 30 (Greatest 60); message = codes "Call us"; pickup_message = []; drop_off_message = []; phone = codes "112" }) ∷ [];
  trips =
      (record {
        id = codes "F";
        service = 0;
        frequent = true;
        repeats =
            (record { first = 36000; end = 39600; headway = 1200 })
            ∷ (record { first = 28800; end = 32400; headway = 600 })
            ∷ [];
        rows =
            (record { sequence = 1; «spot» = spot.Group 0; timing = timing.Window 28800 36000; pickup = Book (Some 0); drop_off = No })
            ∷ (record { sequence = 2; «spot» = spot.Group 0; timing = timing.Window 28800 36000; pickup = No; drop_off = Book (Some 0) })
            ∷ [];
      })
      ∷ [];
  changes = (record { from = 1; to = 2; kind = Least 0 }) ∷ (record { from = 2; to = 1; kind = Forbidden }) ∷ [];
}
unfolding feed_on_literals
value = refl

-- an agency in another zone, a group with the id of a stop, a trip that isn't there
abbrev spoilt : Folder
spoilt Agency = marked "agency_timezone\r\nUTC\r\nCET\r\n\r\n,\r\n"
spoilt file = usual file

time_zones : feed_faults geo spoilt ≡ fault Agency 3 code.TimezoneDiffers ∷ fault Agency 4 code.EmptyField ∷ fault Agency 4 code.TimezoneDiffers ∷ []
unfolding feed_on_literals
time_zones = refl

abbrev unlinked : Folder
unlinked LocationGroups = marked "location_group_id\r\nG\r\nM\r\n"
unlinked Frequencies = marked "trip_id,start_time,end_time,headway_secs\r\nX,08:00:00,09:00:00,600\r\n"
unlinked file = usual file

links : feed_faults geo unlinked ≡ fault LocationGroups 3 code.SharedId ∷ fault Frequencies 2 code.UnknownId ∷ []
unfolding feed_on_literals
links = refl

-- two needed columns that are not there, and a table of one blank line, which counts as absent
abbrev cut : Folder
cut Trips = marked "trip_id\r\nF\r\n"
cut Frequencies = marked "\r\n"
cut file = usual file

columns : feed_faults geo cut ≡ fault Trips 1 code.MissingColumn ∷ fault Trips 1 code.MissingColumn ∷ []
unfolding feed_on_literals
columns = refl
