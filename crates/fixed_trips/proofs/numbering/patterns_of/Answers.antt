-- Trip by trip.
use Rattle.std.proofs.Common.{◌≡◌, ◌+◌, get_or, length, length-append, refl, sym, ◌∙◌, ap, subst, arith}
use Rattle.std.proofs.lemmas.Option.{slice_get_read}
use Rattle.std.specs.Prelude.{Some, slice_get}
use Rattle.fixed_trips.specs.PatternParts.{AreNumbered, IsCountOf}
use Rattle.fixed_trips.proofs.PatternNumbers.{all_numbered, count_numbered, next_trip}
use Rattle.fixed_trips.proofs.numbering.patterns_of.Goals as goal

pub loop-number-preserved : goal.loop-number-preserved
loop-number-preserved c =
    let trips = c.args.feed.now.trips in
    let trip = c.index-trips-number.result in
    let patterns = c.loop-number.patterns.items in
    let all = c.as_slice-trips.ensures in
    let size = ap length all in
    let so_far = c.loop-number.invariant in
    let at : slice_get trips c.loop-number.number ≡ Some trip =
    slice_get_read trips (length trips) c.loop-number.number trip refl (omega (arith, size, c.loop-number-test.true)) (c.index-trips-number.is ∙ ap (λ xs. get_or xs c.loop-number.number trip) all) in
    let number = c.in_ok-number_trip.field-0 in (
      subst (AreNumbered trips c.number_trip.new.met) (sym c.in_ok-push.ensures.items)
          (next_trip trips c.loop-number.met c.number_trip.new.met patterns trip (subst (λ n. slice_get trips n ≡ Some trip) (sym so_far.1) at) so_far.0 number c.in_ok-number_trip.ensures),
      ap length c.in_ok-push.ensures.items ∙ length-append patterns _ ∙ ap (λ n. n + 1) so_far.1,
    )

pub returns-clause-patterns : goal.returns-clause-patterns
returns-clause-patterns c =
    let trips = c.args.feed.now.trips in
    let size = ap length c.as_slice-trips.ensures in
    let so_far = c.loop-number.invariant in
    let end = so_far.1 in
    let few = so_far.0.few in
    all_numbered c.args.feed.now c.loop-number.met c.loop-number.patterns.items (omega (arith, size, end, few, c.loop-number-test.false)) so_far.0

pub returns-clause-count : goal.returns-clause-count
returns-clause-count c =
    let trips = c.args.feed.now.trips in
    let size = ap length c.as_slice-trips.ensures in
    let so_far = c.loop-number.invariant in
    let end = so_far.1 in
    let few = so_far.0.few in
    subst (IsCountOf c.loop-number.patterns.items) (sym c.len.ensures.len)
    (count_numbered trips c.loop-number.met c.loop-number.patterns.items (omega (arith, size, end, few, c.loop-number-test.false)) so_far.0)
