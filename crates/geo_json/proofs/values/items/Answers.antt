use Rattle.geo_json.proofs.Told.{has_array, items_read, items_there}
use Rattle.geo_json.proofs.values.items.Goals as goal

pub items-requires : goal.items-requires
items-requires c = has_array c.args.json.now c.args.array c.requires

pub returns-clause-value : goal.returns-clause-value
returns-clause-value c = λ j of. items_read c.args.json.now c.args.array j of c.items.result c.requires c.items.ensures

pub returns-clause-there : goal.returns-clause-there
returns-clause-there c = items_there c.args.json.now c.args.array c.items.result c.requires c.items.ensures
