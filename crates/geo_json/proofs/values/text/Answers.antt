use Rattle.geo_json.proofs.Told.{has_string, text_read}
use Rattle.geo_json.proofs.values.text.Goals as goal

pub text_of-requires : goal.text_of-requires
text_of-requires c = has_string c.args.json.now c.args.string c.requires

pub returns : goal.returns
returns c = λ j of. text_read c.args.json.now c.args.string j of c.text_of.result.now c.requires c.text_of.ensures
