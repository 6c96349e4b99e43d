use Rattle.std.specs.Prelude.{string_bytes}
use Rattle.feed_tables.proofs.Pools.{cut-none, parts-none}
use Rattle.feed_tables.proofs.pool.Pool.with_room.Goals as goal

pub invariant_of-result : goal.invariant_of-result
invariant_of-result c =
    rw c.new.ensures.items (cut-none (string_bytes c.in_ok-with_capacity.field-0) c.in_ok-with_capacity.ensures.bytes)

pub returns : goal.returns
returns c = parts-none c.new.result.items (string_bytes c.in_ok-with_capacity.field-0) c.new.ensures.items
