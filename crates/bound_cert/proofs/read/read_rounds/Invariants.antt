use Rattle.std.proofs.Common.{◌≡◌, ◌+◌, ◌-◌}
use Rattle.bound_cert.specs.Reading.{each_from, round_at}
use Rattle.bound_cert.proofs.ReaderLoops.{with_front}
use Rattle.bound_cert.proofs.read.read_rounds.Given as goal

-- what was read, and what is still read, are all that is read
abbrev pub invariant-loop-k : goal.invariant-loop-k
invariant-loop-k l =
    let reader = round_at l.known.feed.now l.known.times.now l.walking in
    with_front l.rounds (each_from reader (l.k + 1) (l.count - l.k) l.rest) ≡ each_from reader 1 l.count l.bytes
