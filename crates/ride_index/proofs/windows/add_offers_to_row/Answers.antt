-- Direct time by direct time.
use Rattle.std.proofs.Common.{get_or, w32, w64, rules, SFits, subst, arith}
use Rattle.std.proofs.lemmas.Int.{to_z-of_z}
use Rattle.std.proofs.lemmas.Option.{slice_get-get_or}
use Rattle.flex_model.specs.declared.place.Place.TheVariants as place
use Rattle.flex_model.specs.declared.times.Span.{Span}
use Rattle.ride_index.specs.Legs.{IsLegRide}
use Rattle.ride_index.specs.OfferedRuns.{GainsOffersOf}
use Rattle.ride_index.proofs.WindowOffers.{all_spans, leg_to_place, listed_spans, next_span}
use Rattle.ride_index.proofs.windows.add_offers_to_row.Goals as goal

-- what indexing past the end would give
abbrev no_span : Span
no_span = record { from = place.Stop 0; to = place.Stop 0; seconds = 0 }

pub loop-span-preserved : goal.loop-span-preserved
loop-span-preserved c =
    let w = c.args.wanted.now in
    let leg = c.args.leg.now in
    let spans = c.spans_from-spans.result.now in
    let n = c.loop-span.span-index in
    let span = get_or spans n no_span in
    let day : SFits w32 leg.day = search rules in
    let departs : SFits w64 leg.departs = search rules in
    let arrives : SFits w64 leg.arrives = search rules in
    next_span w leg spans n span c.args.into.now.items c.loop-span.into.items c.add_offer_to_place.new.into.items
    (slice_get-get_or spans n no_span (omega (arith, c.loop-span-test.true))) c.loop-span.invariant
    (subst (λ l. GainsOffersOf (IsLegRide w l) c.loop-span.into.items c.add_offer_to_place.new.into.items)
    (leg_to_place leg span.to _ _ _ (to_z-of_z w32 leg.day day) (to_z-of_z w64 leg.departs departs) (to_z-of_z w64 leg.arrives arrives)) c.in_ok-add_offer_to_place.ensures)

pub returns : goal.returns
returns c =
    let w = c.args.wanted.now in
    all_spans w c.args.leg.now c.spans_from-spans.result.now c.loop-span.span-index c.args.into.now.items c.loop-span.into.items
    (omega (arith, c.loop-span-test.false)) c.requires.leg (listed_spans w _ _ c.as_slice.ensures c.spans_from-spans.ensures) c.loop-span.invariant
