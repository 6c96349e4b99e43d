use Rattle.std.proofs.Common.{sym, ◌∙◌, ap, rules, w32}
use mir.Val.{SFits}
use Rattle.std.proofs.lemmas.Int.{to_z-of_z}
use Rattle.feed_tables.specs.Records.{header_of}
use Rattle.feed_meaning.specs.FeedValue.{day}
use Rattle.feed_rules.specs.Links.{records_in}
use Rattle.feed_load.specs.Calendars.{with_exception}
use Rattle.feed_load.proofs.CalendarDays.{date_noted, date_passed}
use Rattle.feed_load.proofs.Texts.{text_is}
use Rattle.feed_load.proofs.weekly.dated_services.Goals as goal

pub loop-row-preserved : goal.loop-row-preserved
loop-row-preserved c =
    let header = header_of c.args.dates.now in
    let fields = c.in-Some.row.fields in
    let id = text_is header fields "service_id" _ c.value-id.result.now c.value-id.ensures c.column-service_id.ensures in
    let kind = text_is header fields "exception_type" _ c.value-kind.result.now c.value-kind.ensures c.column-exception_type.ensures in
    let date = text_is header fields "date" _ c.value.result.now c.value.ensures c.column-date.ensures in
    let fits : SFits w32 c.day-day.result = search rules in
    date_noted (records_in c.args.calendar) c.args.ids.now header c.loop-row.yielded c.in-Some.row c.loop-row.services.items c.loop-row.invariant c.value-id.result.now id c.requires
    c.in-Some-index_of.index c.value-kind.result.now c.day-day.result c.index_mut.result.now c.add_exception.new.service (sym c.index_of.ensures ∙ c.in-Some-index_of.is) kind
    (c.day-day.ensures ∙ ap day date) c.index_mut.ensures.value
    (c.in_ok-add_exception.ensures ∙ ap (λ d. with_exception c.value-kind.result.now d c.index_mut.result.now) (to_z-of_z w32 c.day-day.result fits))

pub loop-row-preserved-in_default : goal.loop-row-preserved-in_default
loop-row-preserved-in_default c =
    let header = header_of c.args.dates.now in
    let fields = c.in-Some.row.fields in
    let id = text_is header fields "service_id" _ c.value-id.result.now c.value-id.ensures c.column-service_id.ensures in
    date_passed (records_in c.args.calendar) c.args.ids.now header c.loop-row.yielded c.in-Some.row c.loop-row.services.items c.loop-row.invariant c.value-id.result.now id
    (sym c.index_of.ensures ∙ c.in_default.is)
