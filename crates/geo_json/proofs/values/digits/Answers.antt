use Rattle.geo_json.proofs.Told.{has_number, digits_read}
use Rattle.geo_json.proofs.values.digits.Goals as goal

pub number_of-requires : goal.number_of-requires
number_of-requires c = has_number c.args.json.now c.args.number c.requires

pub returns : goal.returns
returns c = λ j of. digits_read c.args.json.now c.args.number j of c.number_of.result.now c.requires c.number_of.ensures
