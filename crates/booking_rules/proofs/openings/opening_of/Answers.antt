-- The booking opens at a time of an earlier day, or never.
use Rattle.std.proofs.Common.{◌≡◌, ◌↔◌, ℤ, Some, None, w32, sym, ◌∙◌, ap, subst}
use Rattle.std.proofs.lemmas.Int.{to_z-of_z}
use Rattle.flex_model.specs.declared.booking.Notice.TheVariants.{Ahead, Days}
use Rattle.flex_model.specs.declared.booking.SameDay.TheVariants.{Start}
use Rattle.booking_rules.specs.Openings.{IsMomentBack, Opens}
use Rattle.booking_rules.proofs.RuleTimes.{days_open, start_opens}
use Rattle.booking_rules.proofs.openings.opening_of.Goals as goal

pub returns-in-Ahead-default-Start : goal.returns-in-Ahead-default-Start
returns-in-Ahead-default-Start c =
    let feed = c.args.feed.now in
    let days = c.args.days.now in
    let rule = c.in-Ahead-default-Start in
    let start = rw rule.is at rule.opens-is in
    let notice : c.args.notice ≡ Ahead rule.least (Start rule.prior) = rule.is ∙ ap (Ahead rule.least) start in
    let moments = subst (λ day. (m : ℤ) → IsMomentBack feed days None day rule.prior m ↔ (c.moment_back.result ≡ Some m)) (to_z-of_z w32 c.args.day c.ranges.day) c.moment_back.ensures.moments in
    subst (λ n. Opens feed days n c.args.day c.args.departs c.from-in-Ahead-default-Start.result) (sym notice)
    (subst (Opens feed days (Ahead rule.least (Start rule.prior)) c.args.day c.args.departs) (sym c.from-in-Ahead-default-Start.ensures)
    (start_opens feed days c.args.day c.args.departs rule.least rule.prior c.moment_back.result moments))

pub returns-in-Days-default-Some-default : goal.returns-in-Days-default-Some-default
returns-in-Days-default-Some-default c =
    let feed = c.args.feed.now in
    let days = c.args.days.now in
    let rule = c.in-Days-default-Some-default in
    let back = c.moment_back-in-Days-default-Some-default in
    let first = rw rule.is at rule.first-is in
    let notice : c.args.notice ≡ Days rule.last (Some rule.first) rule.service = rule.is ∙ ap (λ o. Days rule.last o rule.service) first in
    let moments = subst (λ day. (m : ℤ) → IsMomentBack feed days rule.service day rule.first m ↔ (back.result ≡ Some m)) (to_z-of_z w32 c.args.day c.ranges.day) back.ensures.moments in
    subst (λ n. Opens feed days n c.args.day c.args.departs c.from-in-Days-default-Some-default.result) (sym notice)
    (subst (Opens feed days (Days rule.last (Some rule.first) rule.service) c.args.day c.args.departs) (sym c.from-in-Days-default-Some-default.ensures)
    (days_open feed days c.args.day c.args.departs rule.last rule.first rule.service back.result moments))
