use Rattle.std.proofs.Common.{ap, sym, ◌∙◌}
use Rattle.std.specs.Ordering.{nat_cmp}
use Rattle.std.specs.Cmp.{nat_cmp_total}
use Rattle.std.specs.FinMap.{get, find, get-from_entries}
use Rattle.flex_io.proofs.mem_sink.MemSink.kept_at.Goals as goal

pub loop-number-init : goal.loop-number-init
loop-number-init c =
    ap (λ m. get m.failing c.args.call) (sym c.self.view_is)
    ∙ get-from_entries nat_cmp_total _ _
    ∙ ap (find nat_cmp c.args.call) (sym c.into_iter-number-iterator.ensures.into_iter_gives.0)
