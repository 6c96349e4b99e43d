use Rattle.feed_meaning.proofs.SoundQueries.{accepted_queries}
use Rattle.feed_meaning.proofs.laws.accepted_queries_are_sound.Goals as goal

pub returns : goal.returns
returns c = accepted_queries
