use Rattle.std.proofs.Common.{◌∙◌, ◌<◌, ◌≤◌, Err, ap, subst, sym}
use Rattle.std.proofs.lemmas.Result.{err_from_is_err_and}
use Rattle.feed_meaning.specs.Locations.{closes, ring_checks}
use Rattle.geo_json.proofs.Firsts.{told_err}
use Rattle.geo_json.proofs.RingChecks.{bad_position, good_ring, open_ring, short_ring}
use Rattle.geo_json.proofs.rings.read_ring.Goals as goal

pub returns-in_err-corners-clause-faults : goal.returns-in_err-corners-clause-faults
returns-in_err-corners-clause-faults c = λ j of.
    let p = err_from_is_err_and c.from_residual.result c.from_residual.ensures.1 in
    told_err (ring_checks j c.args.ring) c.from_residual.result c.in_err-corners.field-0.0 (p.1 ∙ ap Err p.2)
    (bad_position j c.args.ring c.in_err-corners.field-0.0 (sym (c.is_array.ensures.value j of) ∙ c.if-not-is_array.false) (c.in_err-corners.ensures.faults j of))

pub returns-then-len-lt-FEWEST_POSITIONS-clause-faults : goal.returns-then-len-lt-FEWEST_POSITIONS-clause-faults
returns-then-len-lt-FEWEST_POSITIONS-clause-faults c = λ j of.
    short_ring j c.args.ring c.in_ok-corners.corners (c.in_ok-corners.ensures.value j of) (sym (c.is_array.ensures.value j of) ∙ c.if-not-is_array.false) (c.in_ok-corners.ensures.faults j of)
    c.fault_at-then-len-lt-FEWEST_POSITIONS.result (subst (λ n. n < 4) c.len.ensures c.if-len-lt-FEWEST_POSITIONS.true) (c.fault_at-then-len-lt-FEWEST_POSITIONS.ensures j of)

pub returns-then-not-closes-clause-faults : goal.returns-then-not-closes-clause-faults
returns-then-not-closes-clause-faults c = λ j of.
    open_ring j c.args.ring c.in_ok-corners.corners (c.in_ok-corners.ensures.value j of) (sym (c.is_array.ensures.value j of) ∙ c.if-not-is_array.false) (c.in_ok-corners.ensures.faults j of)
    c.fault_at-then-not-closes.result (subst (λ n. 4 ≤ n) c.len.ensures c.if-len-lt-FEWEST_POSITIONS.false)
    (ap closes (sym c.as_slice.ensures) ∙ sym c.closes.ensures ∙ c.if-not-closes.true) (c.fault_at-then-not-closes.ensures j of)

pub returns-clause-faults : goal.returns-clause-faults
returns-clause-faults c = λ j of.
    good_ring j c.args.ring c.in_ok-corners.corners (c.in_ok-corners.ensures.value j of) (sym (c.is_array.ensures.value j of) ∙ c.if-not-is_array.false) (c.in_ok-corners.ensures.faults j of)
    (subst (λ n. 4 ≤ n) c.len.ensures c.if-len-lt-FEWEST_POSITIONS.false) (ap closes (sym c.as_slice.ensures) ∙ sym c.closes.ensures ∙ c.if-not-closes.false)
