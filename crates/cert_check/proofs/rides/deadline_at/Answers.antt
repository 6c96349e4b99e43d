use mir.Syntax.{w64}
use Rattle.std.proofs.Common.{rules, ◌*◌, pos, ◌≤ℤ◌, sym, subst}
use Rattle.std.proofs.lemmas.Int.{to_z-of_z}
use Rattle.flex_model.specs.Deadline.{IsNoLater, lesser}
use Rattle.booking_rules.specs.Departures.{later}
use Rattle.cert_check.specs.Modest.{IsModestDeadline}
use Rattle.cert_check.proofs.OfferSums.{first_low, late}
use Rattle.cert_check.proofs.rides.deadline_at.Goals as goal

pub returns-then-is_no_later : goal.returns-then-is_no_later
returns-then-is_no_later c = sym (late c.args.closes c.args.latest (60 * c.args.number) (c.is_no_later.ensures.0 c.if-is_no_later.true))

pub minutes_after-requires : goal.minutes_after-requires
minutes_after-requires c =
    subst (λ n. n ≤ℤ pos 30000000000) (sym (to_z-of_z w64 c.in-At.first (search rules)))
    (first_low c.in-At.first c.args.latest (60 * c.args.number)
    (λ le. let yes = c.is_no_later.ensures.1 (subst (IsNoLater c.args.latest) (sym c.in-At.is) le) in let no = c.if-is_no_later.false in cc)
    (subst (λ d. IsModestDeadline (lesser (later d (60 * c.args.number)) c.args.latest)) c.in-At.is c.requires))
