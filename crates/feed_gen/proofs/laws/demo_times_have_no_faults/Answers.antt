use Rattle.feed_gen.proofs.NoFaults.{demo_times_folders}
use Rattle.feed_gen.proofs.laws.demo_times_have_no_faults.Goals as goal

pub returns : goal.returns
returns c = demo_times_folders
