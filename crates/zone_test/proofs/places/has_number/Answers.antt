-- The search goes by the order of the numbers.
use Rattle.zone_test.proofs.ServedPlaces.{found_number}
use Rattle.zone_test.proofs.places.has_number.Goals as goal

pub returns : goal.returns
returns c = found_number c.args.numbers.now c.args.number c.requires c.binary_search.result c.binary_search.ensures.position c.is_ok.result c.is_ok.ensures.value
