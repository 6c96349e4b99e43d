use Rattle.geo_json.proofs.Sizes.{features_are_few}
use Rattle.geo_json.proofs.laws.features_are_few.Goals as goal

pub returns : goal.returns
returns c = features_are_few
