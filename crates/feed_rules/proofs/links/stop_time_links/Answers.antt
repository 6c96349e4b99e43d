use Rattle.std.proofs.Common.{◌≡◌, ◌∙◌, ◌&&◌, Bool, filter, refl, sym, ap}
use Rattle.std.specs.Option.{option_and_then}
use Rattle.flex_model.specs.declared.fault.FaultCode.TheVariants.{BadStopKind, TimeOrder, UnknownId, UntimedEnd}
use Rattle.flex_model.specs.declared.fault.InputFile.TheVariants as Files
use Rattle.feed_meaning.specs.FeedLinks.{arrival, departure, is_end, is_timed, is_untimed, nearest_before}
use Rattle.feed_meaning.specs.FeedRules.{is_later}
use Rattle.feed_meaning.specs.Rules.{rule, stand}
use Rattle.feed_rules.proofs.KnownIds.{cons_same, station-in, unknown-in}
use Rattle.feed_rules.proofs.links.stop_time_links.Goals as goal
use Rattle.feed_rules.proofs.links.stop_time_links.Goals.{then-is_untimed, else-is_untimed, then-is_timed, else-is_timed}

pub returns : goal.returns
returns c = λ tables r read ids orders.
    let known = c.args.ids.now in
    let s = c.args.s.now in
    let records = tables Files.StopTimes in
    let ends : Bool = is_end records r in
    let late : Bool = stand is_later (option_and_then departure (nearest_before (filter is_timed records) r)) (arrival r) in
    let trip = unknown-in tables Files.Trips "trip_id" known.trips s.trip.now (r "trip_id") c.is_unknown.result ids.trips c.is_unknown.ensures read.trip in
    let stop = unknown-in tables Files.Stops "stop_id" known.stops s.stop.now (r "stop_id") c.is_unknown-2.result ids.stops c.is_unknown-2.ensures read.stop in
    let station = station-in tables known.stations s.stop.now (r "stop_id") c.is_known.result ids.stations c.is_known.ensures read.stop in
    let group = unknown-in tables Files.LocationGroups "location_group_id" known.groups s.group.now (r "location_group_id") c.is_unknown-3.result ids.groups c.is_unknown-3.ensures read.group in
    let zone = unknown-in tables Files.Locations "id" known.zones s.location.now (r "location_id") c.is_unknown-4.result ids.zones c.is_unknown-4.ensures read.location in
    let pickup = unknown-in tables Files.BookingRules "booking_rule_id" known.booking_rules s.pickup_rule.now (r "pickup_booking_rule_id") c.is_unknown-5.result ids.booking_rules c.is_unknown-5.ensures read.pickup_rule in
    let drop_off = unknown-in tables Files.BookingRules "booking_rule_id" known.booking_rules s.drop_off_rule.now (r "drop_off_booking_rule_id") c.is_unknown-6.result ids.booking_rules c.is_unknown-6.ensures read.drop_off_rule in
    let end : c.if-is_untimed.rule ≡ (is_untimed r && ends) = elim c.if-is_untimed.branch [
      | then-is_untimed w ↦ w.rule-is ∙ w.is_end.ensures records r read orders ∙ ap (λ b. b && ends) (sym w.if-is_untimed.true ∙ c.is_untimed.ensures r read)
      | else-is_untimed w ↦ w.rule-is ∙ w.if-is_untimed.false ∙ ap (λ b. b && ends) (sym w.if-is_untimed.false ∙ c.is_untimed.ensures r read)
    ] in
    let time : c.if-is_timed.rule ≡ (is_timed r && late) = elim c.if-is_timed.branch [
      | then-is_timed w ↦ w.rule-is ∙ w.is_overtaken.ensures records r read orders ∙ ap (λ b. b && late) (sym w.if-is_timed.true ∙ c.is_timed.ensures r read)
      | else-is_timed w ↦ w.rule-is ∙ w.if-is_timed.false ∙ ap (λ b. b && late) (sym w.if-is_timed.false ∙ c.is_timed.ensures r read)
    ] in
    cons_same (c.rule.ensures ∙ ap (rule UnknownId) trip) (cons_same (c.rule-2.ensures ∙ ap (rule UnknownId) stop)
    (cons_same (c.rule-3.ensures ∙ ap (rule BadStopKind) station) (cons_same (c.rule-4.ensures ∙ ap (rule UnknownId) group)
    (cons_same (c.rule-5.ensures ∙ ap (rule UnknownId) zone) (cons_same (c.rule-6.ensures ∙ ap (rule UnknownId) pickup)
    (cons_same (c.rule-7.ensures ∙ ap (rule UnknownId) drop_off) (cons_same (c.rule-8.ensures ∙ ap (rule UntimedEnd) end)
    (cons_same (c.rule-9.ensures ∙ ap (rule TimeOrder) time) refl))))))))
