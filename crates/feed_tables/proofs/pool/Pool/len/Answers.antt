use Rattle.std.proofs.Common.{ap, arith, length}
use Rattle.std.specs.Prelude.{string_bytes}
use Rattle.feed_tables.proofs.TableFacts.{length-parts}
use Rattle.feed_tables.proofs.pool.Pool.len.Goals as goal

pub returns : goal.returns
returns c =
    let size = length-parts 0 c.self.inside.ends.items (string_bytes c.self.inside.buffer) in
    omega (arith, c.len.ensures, c.self.inside.ends.ok.0, size, ap length c.self.view_is)
