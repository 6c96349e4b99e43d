use Rattle.geo_json.proofs.Told.{root_there}
use Rattle.geo_json.proofs.values.root.Goals as goal

pub returns-clause-there : goal.returns-clause-there
returns-clause-there c = root_there c.args.json.now c.root.result c.root.ensures.number c.root.ensures.node
