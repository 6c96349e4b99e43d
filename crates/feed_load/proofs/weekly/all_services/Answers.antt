use Rattle.std.proofs.Common.{[], ◌∙◌, ap}
use Rattle.feed_rules.specs.Links.{records_in}
use Rattle.feed_load.specs.TableValues.{values_in}
use Rattle.feed_load.proofs.CalendarTables.{services_of_calendars}
use Rattle.feed_load.proofs.PresentTables.{records_are}
use Rattle.feed_load.proofs.weekly.all_services.Goals as goal
use Rattle.feed_load.proofs.weekly.all_services.Goals.{in-Some+in_ok-services-in-Some, in-None+in_ok-services-in-None}

pub returns : goal.returns
returns c = λ tables weekly dated. elim c.match-dates.branch [
  | in-Some+in_ok-services-in-Some w ↦
      let dates = w.in-Some.dates.now in
      c.from_vec.ensures ∙ ap (λ services. services.items) w.services-is ∙ w.in_ok-services-in-Some.ensures
      ∙ services_of_calendars tables c.args.ids.now (records_in c.args.calendar) (values_in dates) weekly (dated ∙ ap records_in w.in-Some.is ∙ records_are dates)
  | in-None+in_ok-services-in-None w ↦
      c.from_vec.ensures ∙ ap (λ services. services.items) w.services-is ∙ w.in_ok-services-in-None.ensures
      ∙ services_of_calendars tables c.args.ids.now (records_in c.args.calendar) [] weekly (dated ∙ ap records_in w.in-None.is)
]
