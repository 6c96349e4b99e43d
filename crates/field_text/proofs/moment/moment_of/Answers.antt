use Rattle.std.proofs.Common.{◌∙◌, Some, sym, ap, arith}
use Rattle.std.proofs.lemmas.Int.{ints}
use Rattle.field_text.proofs.MomentLemmas.{moment-from_parts, moment-unshaped}
use Rattle.field_text.proofs.moment.moment_of.Goals as goal

pub returns-then-not-is_shaped : goal.returns-then-not-is_shaped
returns-then-not-is_shaped c = moment-unshaped 1980 2209 c.args.text.now (sym c.is_shaped.ensures.value ∙ c.if-not-is_shaped.true)

pub returns : goal.returns
returns c =
    let sum = moment-from_parts 1980 2209 c.args.text.now c.in_ok-day.day c.in_ok-second.second
    (sym c.is_shaped.ensures.value ∙ c.if-not-is_shaped.false) c.in_ok-day.ensures c.in_ok-second.ensures in
    ap Some (omega (arith, ints)) ∙ sum
