-- The lines of records that are numbered in two or three levels.
use Rattle.std.proofs.Common.{◌≡◌, ◌∙◌, ℕ, ◌/◌, ◌%◌, List, ◌++◌, filter, map, not, refl, sym, ap, append_assoc}
use Rattle.std.specs.Prelude.{◌==◌, codes}
use Rattle.std.specs.List.{flat_map}
use Rattle.feed_gen.specs.FeedTexts.{trip_record, trip_records, zone_trip_records}
use Rattle.feed_gen.specs.StopTimesText.{fixed_record, stop_time_records, zone_stop_times}
use Rattle.feed_gen.specs.Texts.{below, lines}
use Rattle.feed_gen.specs.TimesTexts.{between_stops, direct_records, from_point, point_drives, stop_drives}
use Rattle.feed_gen.proofs.LineFacts.{lines-append}
use Rattle.feed_gen.proofs.Orders.{pairs_in_order, points_in_order, stop_times_in_order, trips_in_order}

abbrev fixed_trips : List (List (List ℕ))
fixed_trips = flat_map (λ l. map (λ k. trip_record l k) (below 24)) (below 10)

zone_trip_lines : codes "r0,d,za\nr0,d,zb\n" ≡ lines zone_trip_records
unfolding lines
zone_trip_lines = refl

pub trip_lines : (before : List ℕ)
    → (before ++ lines (map (λ t. trip_record (t / 24) (t % 24)) (below 240))) ++ codes "r0,d,za\nr0,d,zb\n"
    ≡ before ++ lines trip_records
unfolding trip_records
trip_lines before =
    append_assoc before _ (codes "r0,d,za\nr0,d,zb\n")
    ∙ ap (λ rest. before ++ rest)
    (ap (λ records. lines records ++ codes "r0,d,za\nr0,d,zb\n") (sym (trips_in_order trip_record))
    ∙ ap (λ rest. lines fixed_trips ++ rest) zone_trip_lines
    ∙ sym (lines-append fixed_trips zone_trip_records))

abbrev pub zone_a : List ℕ
zone_a = codes "za,1,,zA,,,07:00:00,19:00:00,2,1,b1,\nza,2,,zA,,,07:00:00,19:00:00,1,2,,b1\n"

abbrev pub zone_b : List ℕ
zone_b = codes "zb,1,,zB,,,07:00:00,19:00:00,2,1,b2,\nzb,2,,zB,,,07:00:00,19:00:00,1,2,,b2\n"

abbrev fixed_stop_times : ℕ → List (List (List ℕ))
fixed_stop_times number = flat_map (λ l. flat_map (λ k. map (λ v. fixed_record number l k v) (below 8)) (below 24)) (below 10)

zone_stop_time_lines : zone_a ++ zone_b ≡ lines zone_stop_times
unfolding lines
zone_stop_time_lines = refl

pub stop_time_lines : (number : ℕ) (before : List ℕ)
    → ((before ++ lines (map (λ i. fixed_record number (i / 192) (i / 8 % 24) (i % 8)) (below 1920)))
    ++ codes "za,1,,zA,,,07:00:00,19:00:00,2,1,b1,\nza,2,,zA,,,07:00:00,19:00:00,1,2,,b1\n")
    ++ codes "zb,1,,zB,,,07:00:00,19:00:00,2,1,b2,\nzb,2,,zB,,,07:00:00,19:00:00,1,2,,b2\n"
    ≡ before ++ lines (stop_time_records number)
unfolding stop_time_records
stop_time_lines number before =
    append_assoc _ zone_a zone_b
    ∙ append_assoc before _ (zone_a ++ zone_b)
    ∙ ap (λ rest. before ++ rest)
    (ap (λ records. lines records ++ (zone_a ++ zone_b)) (sym (stop_times_in_order (fixed_record number)))
    ∙ ap (λ rest. lines (fixed_stop_times number) ++ rest) zone_stop_time_lines
    ∙ sym (lines-append (fixed_stop_times number) zone_stop_times))

pub pair_lines : lines (map (λ i. between_stops (i / 40) (i % 40)) (filter (λ i. not (i / 40 == i % 40)) (below 1600))) ≡ lines stop_drives
unfolding stop_drives
pair_lines = ap lines (sym (pairs_in_order between_stops))

pub point_lines : lines (map (λ i. from_point (i / 40) (i % 40)) (below 400)) ≡ lines point_drives
unfolding point_drives
point_lines = ap lines (sym (points_in_order from_point))

pub direct_lines : (before : List ℕ) → (before ++ lines stop_drives) ++ lines point_drives ≡ before ++ lines direct_records
direct_lines before =
    append_assoc before (lines stop_drives) (lines point_drives)
    ∙ ap (λ rest. before ++ rest) (sym (lines-append stop_drives point_drives))
