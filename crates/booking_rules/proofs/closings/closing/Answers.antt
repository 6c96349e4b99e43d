use Rattle.std.proofs.Common.{◌≡◌, ◌↔◌, ℤ, Some, w32, w64, to_z, of_z, subst}
use Rattle.std.proofs.lemmas.Int.{to_z-of_z}
use Rattle.flex_model.specs.Booking.{Closes}
use Rattle.booking_rules.proofs.RuleTimes.{closing_by}
use Rattle.booking_rules.proofs.closings.closing.Goals as goal

pub returns-clause-closings : goal.returns-clause-closings
returns-clause-closings c =
    let feed = c.args.feed.now in
    let days = c.args.days.now in
    let notice = c.notice_of.result in
    let closes = subst (λ departs. (m : ℤ) → Closes feed days notice c.args.day departs m ↔ (c.closing_of.result ≡ Some m)) (to_z-of_z w64 c.args.departs c.ranges.departs)
    (subst (λ day. (m : ℤ) → Closes feed days notice day (to_z w64 (of_z w64 c.args.departs)) m ↔ (c.closing_of.result ≡ Some m)) (to_z-of_z w32 c.args.day c.ranges.day) c.closing_of.ensures.closings) in
    closing_by feed days c.args.day c.args.departs c.args.rule notice c.closing_of.result c.notice_of.ensures.notice closes
