-- The service that is asked is the one that has the number.
use Rattle.std.proofs.Common.{◌≡◌, ◌↔◌, ◌<◌, ◌≤ℤ◌, ◌+ℤ◌, ℤ, pos, ◌-ℤ◌, w32, w64, to_z, of_z, arith, IfSome, Some, slice_get, length, get_or, refl, ap, sym, ◌∙◌, subst}
use Rattle.std.proofs.lemmas.Int.{ints, to_z-of_z}
use Rattle.std.proofs.lemmas.Option.{slice_get_read}
use Rattle.flex_model.specs.ServiceDay.{IsBack, IsDaysBack}
use Rattle.service_days.proofs.BackDays.{calendar_back, service_back}
use Rattle.service_days.proofs.back.count_back.Goals as goal

pub returns-in-Some : goal.returns-in-Some
returns-in-Some c earlier =
    let feed = c.args.feed.now in
    let s = c.in-Some.s in
    let service = c.index-deref-s.result in
    let within : s < length feed.services = subst (λ given. IfSome given (λ k. k < length feed.services)) c.in-Some.is c.requires.service in
    let at : slice_get feed.services s ≡ Some service =
    slice_get_read feed.services (length feed.services) s service refl within (c.index-deref-s.is ∙ ap (λ all. get_or all s service) c.deref.ensures) in
    let days = subst (λ day. (e : ℤ) → IsDaysBack service day c.args.n e ↔ (c.days_back.result ≡ Some e)) (to_z-of_z w32 c.args.day c.ranges.day) c.days_back.ensures in
    subst (λ given. IsBack feed given c.args.day c.args.n earlier ↔ (c.days_back.result ≡ Some earlier)) (sym c.in-Some.is)
    (service_back feed s service c.args.day c.args.n c.days_back.result at days earlier)

pub returns-in-None : goal.returns-in-None
returns-in-None c earlier =
    let feed = c.args.feed.now in
    let in_range : pos c.args.n ≤ℤ (c.args.day +ℤ pos 2147483648) = c.requires.in_range in
    let earlier_day = to_z w32 (of_z w32 (to_z w64 (of_z w64 (to_z w64 (of_z w64 c.from.result) -ℤ to_z w64 (of_z w64 c.from-in-None.result))))) in
    subst (λ given. IsBack feed given c.args.day c.args.n earlier ↔ (Some earlier_day ≡ Some earlier)) (sym c.in-None.is)
    (calendar_back feed c.args.day c.args.n earlier_day (omega (arith, ints, c.from.ensures, c.from-in-None.ensures)) earlier)
