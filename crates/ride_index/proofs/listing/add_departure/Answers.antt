-- A record gives one departure or none.
use Rattle.std.proofs.Common.{◌∙◌, sym, subst}
use Rattle.std.proofs.lemmas.Option.{none-some, same_Some}
use Rattle.ride_index.proofs.DepartureLists.{IsAt}
use Rattle.ride_index.proofs.RideLists.{Gained, gained_none, gained_one}
use Rattle.ride_index.proofs.listing.add_departure.Goals as goal

pub returns-in_default : goal.returns-in_default
returns-in_default c =
    gained_none (IsAt c.args.kind c.args.trip c.args.at c.args.row.now) c.args.found.now.items
    (λ x p. none-some x (sym c.in_default.is ∙ (c.departure_at.ensures x).1 p))

pub returns : goal.returns
returns c =
    let one = c.in-Some.departure in
    subst (Gained (IsAt c.args.kind c.args.trip c.args.at c.args.row.now) c.args.found.now.items) (sym c.in_ok-push.ensures.items)
    (gained_one (IsAt c.args.kind c.args.trip c.args.at c.args.row.now) c.args.found.now.items one
    ((c.departure_at.ensures one).0 c.in-Some.is)
    (λ x p. same_Some x one (sym ((c.departure_at.ensures x).1 p) ∙ c.in-Some.is)))
