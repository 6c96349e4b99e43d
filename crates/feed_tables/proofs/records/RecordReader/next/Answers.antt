use Rattle.std.proofs.Common.{◌∙◌, inr, refl, sym}
use Rattle.feed_tables.proofs.LeftFacts.{not-text-left, ok-false, took}
use Rattle.feed_tables.proofs.Texts.{not-text}
use Rattle.csv.specs.Records.{fields_of}
use Rattle.feed_tables.proofs.records.RecordReader.next.Goals as goal

pub returns-in-Ok-clause-found : goal.returns-in-Ok-clause-found
returns-in-Ok-clause-found c =
    let e = c.in-Ok.ensures in
    rw (← c.self.view_is) (took c.self.inside.reader c.read_record.new.self c.in-Ok.found (fields_of c.read_record.new.row)
    (λ on. (c.self.invariant on).config)
    (λ on. e.reads (c.self.invariant on).plain (c.self.invariant on).ready)
    (λ gone. ok-false c.in-Ok.found (e.failed gone)))

pub returns-in-Utf8-clause-refused : goal.returns-in-Utf8-clause-refused
returns-in-Utf8-clause-refused c =
    let e = c.in-Err.ensures in
    let (fields, rest, left, no_text) = not-text-left c.self.inside.reader c.read_record.new.self _ c.in-Utf8.pos c.in-Utf8.err (λ gone. cc (e.failed gone))
    (λ on. (c.self.invariant on).config)
    (λ on. e.why (c.self.invariant on).plain (c.self.invariant on).ready)
    (sym c.kind.ensures ∙ c.in-Utf8.is) in
    inr (refl, (fields, rest, sym c.self.view_is ∙ left, not-text fields no_text))
