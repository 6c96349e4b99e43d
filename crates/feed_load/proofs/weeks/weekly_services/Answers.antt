use Rattle.std.proofs.Common.{◌≡◌, [], map, sym, ◌∙◌, ap}
use Rattle.std.proofs.lemmas.Result.{IfOk-weaker}
use Rattle.feed_meaning.specs.FeedValue.{service_of}
use Rattle.feed_rules.specs.Links.{records_in}
use Rattle.feed_load.specs.Calendars.{calendars}
use Rattle.feed_load.specs.TableValues.{values_in}
use Rattle.feed_load.proofs.PresentTables.{records_are}
use Rattle.feed_load.proofs.weeks.weekly_services.Goals as goal

pub returns-in-Some : goal.returns-in-Some
returns-in-Some c =
    let table = c.in-Some.calendar in
    let ids = c.args.ids.now in
    IfOk-weaker c.services_in_weeks.result
    (λ services. services.items ≡ map (service_of (calendars (values_in table.now) [])) ids)
    (λ services. services.items ≡ map (service_of (calendars (records_in c.args.calendar) [])) ids)
    (λ services h. h ∙ ap (λ weeks. map (service_of (calendars weeks [])) ids) (sym (ap records_in c.in-Some.is ∙ records_are table.now))) c.services_in_weeks.ensures
