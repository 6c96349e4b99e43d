use Rattle.std.proofs.Common.{◌≡◌, ◌∙◌, ◌++◌, ◌/◌, ◌%◌, ap, arith, map}
use Rattle.std.specs.Prelude.{codes}
use Rattle.feed_gen.specs.StopTimesText.{fixed_record, stop_time_records, stop_times_text}
use Rattle.feed_gen.specs.Texts.{below, lines, record_line, table_text}
use Rattle.feed_gen.proofs.LineFacts.{one_more_line}
use Rattle.feed_gen.proofs.TripLines.{stop_time_lines, zone_a, zone_b}
use Rattle.feed_gen.proofs.stop_times.stop_times_text.Goals as goal

pub loop-i-preserved : goal.loop-i-preserved
loop-i-preserved c =
    let number = c.args.number in
    let i = c.loop-i.i in
    c.in_ok-append-2.ensures.ok
    ∙ ap (λ line. c.loop-i.text ++ line) (c.as_str.ensures.value ∙ c.in_ok-line.ensures)
    ∙ ap (λ text. text ++ record_line (fixed_record number (i / 192) (i / 8 % 24) (i % 8))) c.loop-i.invariant
    ∙ one_more_line c.append.new.self (λ k. fixed_record number (k / 192) (k / 8 % 24) (k % 8)) i

pub returns : goal.returns
unfolding stop_times_text table_text
returns c =
    let number = c.args.number in
    let all : c.loop-i.i ≡ 1920 = omega arith in
    c.in_ok-append-4.ensures.ok
    ∙ ap (λ text. text ++ zone_b)
    (c.in_ok-append-3.ensures.ok
    ∙ ap (λ text. text ++ zone_a)
    (c.loop-i.invariant
    ∙ ap (λ n. c.append.new.self ++ lines (map (λ i. fixed_record number (i / 192) (i / 8 % 24) (i % 8)) (below n))) all))
    ∙ stop_time_lines number c.append.new.self
    ∙ ap (λ text. text ++ lines (stop_time_records number))
    (c.in_ok-append.ensures.ok
    ∙ ap (λ text. text ++ codes "trip_id,stop_sequence,stop_id,location_id,arrival_time,departure_time,start_pickup_drop_off_window,end_pickup_drop_off_window,pickup_type,drop_off_type,pickup_booking_rule_id,drop_off_booking_rule_id\n") c.new-text.ensures)
