use Rattle.std.proofs.Common.{◌≡◌}
use Rattle.std.specs.Ordering.{nat_cmp}
use Rattle.std.specs.FinMap.{get, find}
use Rattle.std.specs.VecDeque.Iter.{deque_iter_rest}
use Rattle.flex_io.proofs.mem_sink.MemSink.kept_at.Given as goal

abbrev pub invariant-loop-number : goal.invariant-loop-number
invariant-loop-number l = get l.self.failing l.call ≡ find nat_cmp l.call (deque_iter_rest l.number-iterator)
