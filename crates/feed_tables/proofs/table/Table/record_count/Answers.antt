use Rattle.std.proofs.Common.{ap, arith, length}
use Rattle.feed_tables.proofs.TableFacts.{length-parts}
use Rattle.feed_tables.proofs.table.Table.record_count.Goals as goal

pub returns : goal.returns
returns c =
    let parts_size = length-parts 0 c.self.inside.ends.items (c.self.inside.pool) in
    omega (arith, c.len.ensures, c.self.inside.ends.ok.0, parts_size, ap length c.self.view_is)
