use Rattle.std.proofs.Common.{w32, w64, to_z, of_z, subst}
use Rattle.std.proofs.lemmas.Int.{to_z-of_z}
use Rattle.booking_rules.specs.Openings.{Opens}
use Rattle.booking_rules.proofs.RuleTimes.{opening_by}
use Rattle.booking_rules.proofs.openings.opening.Goals as goal

pub returns : goal.returns
returns c =
    let feed = c.args.feed.now in
    let days = c.args.days.now in
    let notice = c.notice_of.result in
    let opens = subst (λ departs. Opens feed days notice c.args.day departs c.opening_of.result) (to_z-of_z w64 c.args.departs c.ranges.departs)
    (subst (λ day. Opens feed days notice day (to_z w64 (of_z w64 c.args.departs)) c.opening_of.result) (to_z-of_z w32 c.args.day c.ranges.day) c.opening_of.ensures) in
    opening_by feed days c.args.day c.args.departs c.args.rule notice c.opening_of.result c.notice_of.ensures.notice opens
