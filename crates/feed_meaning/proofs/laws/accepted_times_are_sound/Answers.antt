use Rattle.feed_meaning.proofs.SoundTimesFolders.{accepted_times}
use Rattle.feed_meaning.proofs.laws.accepted_times_are_sound.Goals as goal

pub returns : goal.returns
returns c = accepted_times
