-- The time of the departure counts from the begin of the day.
use Rattle.std.proofs.Common.{to_z, of_z, w32, w64, arith}
use Rattle.std.proofs.lemmas.Int.{ints}
use Rattle.journey_judge.proofs.WindowTimes.{no_begin, no_time, of_begin, of_time, on_a_minute}
use Rattle.journey_judge.proofs.windows.leaves_in_window.Goals as goal

pub returns-in_default : goal.returns-in_default
returns-in_default c =
    no_begin c.args.days.now c.args.ride.now c.args.start c.args.end c.begin.result
    (of_begin c.args.days.now c.args.ride.now.day (to_z w32 (of_z w32 c.args.ride.now.day)) (omega (arith, ints)) c.begin.result c.begin.ensures.begins) c.in_default.is

pub returns-in_default-time_since : goal.returns-in_default-time_since
returns-in_default-time_since c =
    no_time c.args.days.now c.args.ride.now c.args.start c.args.end c.begin.result
    (of_begin c.args.days.now c.args.ride.now.day (to_z w32 (of_z w32 c.args.ride.now.day)) (omega (arith, ints)) c.begin.result c.begin.ensures.begins)
    c.in-Some.base c.in-Some.is (omega arith) c.time_since.result
    (of_time c.args.ride.now.departs (to_z w64 (of_z w64 c.args.ride.now.departs)) c.in-Some.base (to_z w64 (of_z w64 c.in-Some.base)) (omega (arith, ints)) (omega (arith, ints))
    c.time_since.result c.time_since.ensures)
    c.in_default-time_since.is

pub returns : goal.returns
returns c =
    on_a_minute c.args.days.now c.args.ride.now c.args.start c.args.end c.begin.result
    (of_begin c.args.days.now c.args.ride.now.day (to_z w32 (of_z w32 c.args.ride.now.day)) (omega (arith, ints)) c.begin.result c.begin.ensures.begins)
    c.in-Some.base c.in-Some.is (omega arith) c.time_since.result
    (of_time c.args.ride.now.departs (to_z w64 (of_z w64 c.args.ride.now.departs)) c.in-Some.base (to_z w64 (of_z w64 c.in-Some.base)) (omega (arith, ints)) (omega (arith, ints))
    c.time_since.result c.time_since.ensures)
    c.in-Some-time_since.time c.in-Some-time_since.is c.is_minute_of.result c.is_minute_of.ensures
