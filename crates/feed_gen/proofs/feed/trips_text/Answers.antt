use Rattle.std.proofs.Common.{◌≡◌, ◌∙◌, ◌++◌, ◌/◌, ◌%◌, ap, arith, map}
use Rattle.std.specs.Prelude.{codes}
use Rattle.feed_gen.specs.FeedTexts.{trip_record, trip_records, trips_text}
use Rattle.feed_gen.specs.Texts.{below, lines, table_text}
use Rattle.feed_gen.proofs.TripLines.{trip_lines}
use Rattle.feed_gen.proofs.feed.trips_text.Goals as goal

pub returns : goal.returns
unfolding trips_text table_text
returns c =
    let all : c.loop-t.t ≡ 240 = omega arith in
    c.in_ok-append-2.ensures.ok
    ∙ ap (λ text. text ++ codes "r0,d,za\nr0,d,zb\n")
    (c.loop-t.invariant ∙ ap (λ n. c.append.new.self ++ lines (map (λ t. trip_record (t / 24) (t % 24)) (below n))) all)
    ∙ trip_lines c.append.new.self
    ∙ ap (λ text. text ++ lines trip_records)
    (c.in_ok-append.ensures.ok ∙ ap (λ text. text ++ codes "route_id,service_id,trip_id\n") c.new-text.ensures)
