use Rattle.feed_gen.proofs.NoFaults.{demo_feeds}
use Rattle.feed_gen.proofs.laws.demo_feeds_have_no_faults.Goals as goal

pub returns : goal.returns
returns c = demo_feeds c.texts_are_unambiguous.ensures
