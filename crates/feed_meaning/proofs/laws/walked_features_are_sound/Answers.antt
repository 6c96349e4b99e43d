use Rattle.feed_meaning.proofs.SoundFeatures.{walked_features}
use Rattle.feed_meaning.proofs.laws.walked_features_are_sound.Goals as goal

pub returns : goal.returns
returns c = walked_features
