use Rattle.geo_json.proofs.Existing.{texts_have_scans}
use Rattle.geo_json.proofs.laws.texts_have_scans.Goals as goal

pub returns : goal.returns
returns c = texts_have_scans c.machine_accepts_within.ensures c.machine_accepts_the_grammar.ensures c.prefix_is_alive.ensures c.fault_is_found.ensures c.depth_is_found.ensures
