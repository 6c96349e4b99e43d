-- The rides between two records of which one has a window.
use Rattle.std.proofs.Common.{◌≡◌, w32, rules, sym, ◌∙◌, ap, subst}
use Rattle.std.proofs.lemmas.Bool.{false≢true}
use Rattle.std.proofs.lemmas.Int.{to_z-of_z}
use Rattle.flex_model.specs.declared.trip.Way.TheVariants.{No}
use Rattle.ride_index.specs.Legs.{IsRowsLeg, leg_from}
use Rattle.ride_index.proofs.BoardingOffers.{IsBetween, gains_between, none_left, none_timed, rows_leg}
use Rattle.ride_index.proofs.OfferLists.{gains_none}
use Rattle.ride_index.proofs.boardings.add_offers_between.Goals as goal

pub returns-then-eq : goal.returns-then-eq
returns-then-eq c =
    let w = c.args.wanted.now in
    let d = c.args.departure.now in
    let no_way : c.args.alighting.now.drop_off ≡ No = search rules in
    gains_none (IsBetween w d c.args.day c.args.boarding.now c.args.alighting.now c.args.to_row c.requires.boarding c.requires.alighting) c.args.into.now.items
    (none_left w d c.args.day c.args.boarding.now c.args.alighting.now c.args.to_row c.requires.boarding c.requires.alighting no_way)

pub returns-then-are_timed : goal.returns-then-are_timed
returns-then-are_timed c =
    let w = c.args.wanted.now in
    let d = c.args.departure.now in
    gains_none (IsBetween w d c.args.day c.args.boarding.now c.args.alighting.now c.args.to_row c.requires.boarding c.requires.alighting) c.args.into.now.items
    (none_timed w d c.args.day c.args.boarding.now c.args.alighting.now c.args.to_row c.requires.boarding c.requires.alighting (c.are_timed.ensures.0 c.if-are_timed.true))

pub add_offers_to_row-requires-clause-leg : goal.add_offers_to_row-requires-clause-leg
add_offers_to_row-requires-clause-leg c =
    let w = c.args.wanted.now in
    let d = c.args.departure.now in
    let made : c.leg_of-leg.result ≡ leg_from w d c.args.day c.args.to_row = c.leg_of-leg.ensures ∙ ap (λ k. leg_from w d k c.args.to_row) (to_z-of_z w32 c.args.day c.ranges.day) in
    subst (IsRowsLeg w) (sym made)
    (rows_leg w d c.args.day c.args.boarding.now c.args.alighting.now c.args.to_row c.requires.boarding c.requires.alighting c.requires.runs (λ both. false≢true (sym c.if-are_timed.false ∙ c.are_timed.ensures.1 both)))

pub returns : goal.returns
returns c =
    let w = c.args.wanted.now in
    let d = c.args.departure.now in
    let made : c.leg_of-leg.result ≡ leg_from w d c.args.day c.args.to_row = c.leg_of-leg.ensures ∙ ap (λ k. leg_from w d k c.args.to_row) (to_z-of_z w32 c.args.day c.ranges.day) in
    gains_between w d c.args.day c.args.boarding.now c.args.alighting.now c.args.to_row c.requires.boarding c.requires.alighting c.requires.runs (λ both. false≢true (sym c.if-are_timed.false ∙ c.are_timed.ensures.1 both))
    c.leg_of-leg.result c.args.into.now.items c.add_offers_to_row.new.into.items made c.in_ok-add_offers_to_row.ensures
