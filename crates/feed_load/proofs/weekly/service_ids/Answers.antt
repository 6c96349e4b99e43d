use Rattle.std.proofs.Common.{fold, map, ◌∙◌, ap}
use Rattle.feed_meaning.specs.Noted.{noted}
use Rattle.feed_rules.specs.Links.{records_in}
use Rattle.feed_load.proofs.CalendarTables.{services_are, services_are_ids}
use Rattle.feed_load.proofs.weekly.service_ids.Goals as goal

pub returns-clause-found : goal.returns-clause-found
returns-clause-found c =
    services_are c.args.calendar c.args.dates c.note_any_services.new.ids c.note_any_services-2.new.ids
    (c.in_ok-note_any_services.ensures ∙ ap (λ ids. fold noted ids (map (λ r. r "service_id") (records_in c.args.calendar))) c.new-ids.ensures)
    c.in_ok-note_any_services-2.ensures c.requires.calendar c.requires.dates

pub returns-clause-distinct : goal.returns-clause-distinct
returns-clause-distinct c =
    services_are_ids c.args.calendar c.args.dates c.note_any_services.new.ids c.note_any_services-2.new.ids
    (c.in_ok-note_any_services.ensures ∙ ap (λ ids. fold noted ids (map (λ r. r "service_id") (records_in c.args.calendar))) c.new-ids.ensures)
    c.in_ok-note_any_services-2.ensures
