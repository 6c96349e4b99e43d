use Rattle.std.proofs.Common.{◌≡◌, ℕ, ◌+◌, ◌-◌}
use Rattle.bound_cert.specs.LineWords as Lines
use Rattle.bound_cert.specs.Reading.{each_from, line_at}
use Rattle.bound_cert.proofs.ReaderLoops.{with_front}
use Rattle.bound_cert.proofs.read.read_rides.Given as goal

-- what was read, and what is still read, are all that is read
abbrev pub invariant-loop : goal.invariant-loop
invariant-loop l =
    let reader = λ (k : ℕ). line_at (Lines.ride_in l.known.feed.now l.known.times.now) in
    with_front l.rides (each_from reader (l.counter + 1) (l.count - l.counter) l.rest) ≡ each_from reader 1 l.count l.bytes
