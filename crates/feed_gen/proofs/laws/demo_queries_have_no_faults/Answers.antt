use Rattle.feed_gen.proofs.NoFaults.{demo_queries}
use Rattle.feed_gen.proofs.laws.demo_queries_have_no_faults.Goals as goal

pub returns : goal.returns
returns c = demo_queries
