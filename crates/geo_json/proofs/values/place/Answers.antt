use Rattle.geo_json.specs.There.{is_value}
use Rattle.geo_json.proofs.Told.{place_read}
use Rattle.geo_json.proofs.values.place.Goals as goal

pub returns : goal.returns
returns c = λ j of. place_read c.args.json.now c.args.node j of is_value c.place.result c.requires c.place.ensures
