use Rattle.journey_rebuild.proofs.PrintedParts.{found_printable}
use Rattle.journey_rebuild.proofs.laws.found_parts_are_printable.Goals as goal

pub returns : goal.returns
returns c = found_printable
