use Rattle.std.proofs.Common.{◌∙◌}
use Rattle.place_times.proofs.PlaceFacts.{stop_there}
use Rattle.place_times.proofs.places.is_stop.Goals as goal

pub returns : goal.returns
returns c = λ feed points are. c.has.ensures ∙ stop_there feed points c.args.ids.now are c.args.text.now
