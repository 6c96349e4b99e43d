use Rattle.std.proofs.Common.{[], refl, sym, ◌∙◌, ap}
use Rattle.std.specs.List.{list_any}
use Rattle.std.specs.Str.{bytes_eq}
use Rattle.feed_tables.specs.Records.{header_of}
use Rattle.feed_tables.specs.Refusals.{is_given}
use Rattle.feed_load.specs.Calendars.{with_week_at}
use Rattle.feed_load.proofs.CalendarWeeks.{services_noted, week_noted, week_passed, week_repeated}
use Rattle.feed_load.proofs.Texts.{text_is}
use Rattle.feed_load.proofs.weeks.services_in_weeks.Goals as goal

pub loop-row-preserved : goal.loop-row-preserved
loop-row-preserved c =
    let header = header_of c.args.calendar.now in
    let fields = c.in-Some.row.fields in
    let text = c.value-id.result.now in
    let id = text_is header fields "service_id" _ text c.value-id.ensures c.column-service_id.ensures in
    record {
      met = services_noted [] header c.loop-row.yielded c.in-Some.row c.loop-row.met c.note.new.self text c.loop-row.invariant.met c.in_ok-is_repeated.ensures.noted id;
      services = week_noted c.args.ids.now header c.loop-row.yielded c.in-Some.row c.loop-row.services.items c.loop-row.invariant.services text id
          c.loop-row.met c.loop-row.invariant.met c.requires c.in-Some-index_of.index c.index_mut.result.now c.set_week.new.service (sym c.index_of.ensures ∙ c.in-Some-index_of.is)
          (sym c.in_ok-is_repeated.ensures.repeated ∙ c.if-is_repeated.false) c.index_mut.ensures.value
          (c.set_week.ensures ∙ ap (λ columns. with_week_at columns fields c.index_mut.result.now) c.week_columns-columns.ensures);
    }

pub loop-row-preserved-in_default : goal.loop-row-preserved-in_default
loop-row-preserved-in_default c =
    let header = header_of c.args.calendar.now in
    let fields = c.in-Some.row.fields in
    let text = c.value-id.result.now in
    let id = text_is header fields "service_id" _ text c.value-id.ensures c.column-service_id.ensures in
    record {
      met = services_noted [] header c.loop-row.yielded c.in-Some.row c.loop-row.met c.note.new.self text c.loop-row.invariant.met c.in_ok-is_repeated.ensures.noted id;
      services = week_passed c.args.ids.now header c.loop-row.yielded c.in-Some.row c.loop-row.services.items c.loop-row.invariant.services text id (sym c.index_of.ensures ∙ c.in_default.is);
    }

pub loop-row-preserved-then-is_repeated : goal.loop-row-preserved-then-is_repeated
loop-row-preserved-then-is_repeated c =
    let header = header_of c.args.calendar.now in
    let fields = c.in-Some.row.fields in
    let text = c.value-id.result.now in
    let id = text_is header fields "service_id" _ text c.value-id.ensures c.column-service_id.ensures in
    record {
      met = services_noted [] header c.loop-row.yielded c.in-Some.row c.loop-row.met c.note.new.self text c.loop-row.invariant.met c.in_ok-is_repeated.ensures.noted id;
      services = week_repeated c.args.ids.now header c.loop-row.yielded c.in-Some.row c.loop-row.services.items c.loop-row.invariant.services text id
          c.loop-row.met c.loop-row.invariant.met (is_given text) (list_any (bytes_eq text) c.loop-row.met) refl refl (sym c.in_ok-is_repeated.ensures.repeated ∙ c.if-is_repeated.true);
    }
