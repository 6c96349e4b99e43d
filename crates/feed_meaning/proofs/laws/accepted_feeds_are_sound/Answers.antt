use Rattle.feed_meaning.proofs.SoundFeeds.{accepted_feeds}
use Rattle.feed_meaning.proofs.laws.accepted_feeds_are_sound.Goals as goal

pub returns : goal.returns
returns c = accepted_feeds
