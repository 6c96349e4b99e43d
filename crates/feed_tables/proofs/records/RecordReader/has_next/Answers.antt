use Rattle.feed_tables.proofs.LeftFacts.{found-some, ok-false, took}
use Rattle.csv.specs.Records.{fields_of}
use Rattle.feed_tables.proofs.records.RecordReader.has_next.Goals as goal

pub returns-in-Ok-clause-found : goal.returns-in-Ok-clause-found
returns-in-Ok-clause-found c =
    let e = c.in-Ok.ensures in
    rw (← c.self.view_is) (found-some _ _ _ c.in-Ok.found (took c.self.inside.reader c.read_byte_record.new.self c.in-Ok.found (fields_of c.read_byte_record.new.row)
    (λ on. (c.self.invariant on).config)
    (λ on. e.reads (c.self.invariant on).plain (c.self.invariant on).ready)
    (λ gone. ok-false c.in-Ok.found (e.failed gone))))
