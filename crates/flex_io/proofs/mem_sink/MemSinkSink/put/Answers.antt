use Rattle.std.proofs.Common.{◌≡◌, ◌++◌, Some, ap, rules}
use Rattle.flex_io.proofs.mem_sink.MemSinkSink.put.Goals as goal

pub returns-clause-part : goal.returns-clause-part
returns-clause-part c = λ _.
    let added : c.extend_from_slice-2.new.self.items ≡ c.args.self.now.bytes ++ c.beginning_of.result.now = search rules in
    (c.beginning_of.result.now, c.beginning_of.ensures.beginning, ap Some added)
