use Rattle.std.proofs.Common.{◌≡◌, ◌-◌, false}
use Rattle.bound_cert.specs.Reading.{parts_from}
use Rattle.bound_cert.proofs.ReaderLoops.{with_front}
use Rattle.bound_cert.proofs.read.read_parts.Given as goal

-- what was read, and what is still read, are all that is read
abbrev pub invariant-loop-k : goal.invariant-loop-k
invariant-loop-k l =
    with_front l.parts (parts_from l.known.feed.now l.known.times.now l.two l.asked (l.count - l.k) l.rest)
    ≡ parts_from l.known.feed.now l.known.times.now l.two false l.count l.bytes
