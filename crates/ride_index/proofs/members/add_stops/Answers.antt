-- Stop by stop.
use Rattle.std.proofs.Common.{◌≡◌, sym, subst, Contains, arith}
use Rattle.std.proofs.lemmas.List.{take_all}
use Rattle.ride_index.proofs.MemberLists.{IsOfFirst, next_stop}
use Rattle.ride_index.proofs.RideLists.{Gained, gained_none}
use Rattle.ride_index.proofs.members.add_stops.Goals as goal

pub loop-stop-init : goal.loop-stop-init
loop-stop-init c = gained_none (IsOfFirst c.args.stops.now c.args.named 0) c.args.found.now.items (λ m h. absurd (let lt = h.1.1 in omega (arith, lt)))

pub loop-stop-preserved : goal.loop-stop-preserved
loop-stop-preserved c =
    subst (Gained (IsOfFirst c.args.stops.now c.args.named _) c.args.found.now.items) (sym c.in_ok-push.ensures.items)
    (next_stop c.args.stops.now c.args.named c.loop-stop.stop-index _ c.args.found.now.items c.loop-stop.found.items (omega (arith, c.loop-stop-test.true)) c.loop-stop.invariant)

pub returns : goal.returns
returns c =
    subst (λ xs. Gained (λ m. (m.named ≡ c.args.named) × Contains xs m.stop) c.args.found.now.items c.loop-stop.found.items)
    (take_all c.loop-stop.stop-index c.args.stops.now (omega (arith, c.loop-stop-test.false))) c.loop-stop.invariant
