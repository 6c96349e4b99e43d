use Rattle.std.proofs.Common.{◌≡◌, map, sym, ◌∙◌, ap}
use Rattle.std.proofs.lemmas.Result.{IfOk-weaker}
use Rattle.feed_meaning.specs.FeedValue.{stop_of}
use Rattle.feed_rules.specs.Links.{records_in}
use Rattle.feed_load.specs.TableValues.{values_in}
use Rattle.feed_load.proofs.PresentTables.{records_are}
use Rattle.feed_load.proofs.stops.stops_of.Goals as goal

pub returns-in-Some : goal.returns-in-Some
returns-in-Some c =
    let table = c.in-Some.table.now in
    IfOk-weaker c.stops_in.result (λ stops. stops ≡ map stop_of (values_in table)) (λ stops. stops ≡ map stop_of (records_in c.args.table))
    (λ stops is. is ∙ ap (map stop_of) (sym (ap records_in c.in-Some.is ∙ records_are table))) c.stops_in.ensures
