-- The minutes are those from the first one to the last one.
use Rattle.std.proofs.Common.{◌≡◌, ◌↔◌, ◌<◌, ◌≤◌, ℕ, ◌+◌, ◌-◌, ◌*◌, ◌/◌, Some, sym, subst, arith}
use Rattle.std.proofs.lemmas.Grind.{div_ceil_times}
use Rattle.flex_trips.specs.Windows.{IsAmong, IsWholeMinute}
use Rattle.flex_trips.proofs.departures.whole_minutes.Goals as goal

minutes_between : (from to first last second : ℕ) → from ≤ first * 60 → first * 60 < from + 60 → last * 60 ≤ to → to < last * 60 + 60 → first ≤ last
    → IsAmong (Some (record { first = first * 60; count = last - first + 1 })) second ↔ (IsWholeMinute second × (from ≤ second) × (second ≤ to))
minutes_between from to first last second a b c d order = (
  λ h.
      let few : h.0 < last - first + 1 = h.1 in
      let is : second ≡ first * 60 + 60 * h.0 = h.2 in
      ((first + h.0, omega (arith, is)), omega (arith, is), omega (arith, is, few)),
  λ h.
      let is : second ≡ 60 * h.0.0 = h.0.1 in
      let low : from ≤ second = h.1 in
      let high : second ≤ to = h.2 in
      (h.0.0 - first, omega (arith, is, low, high), omega (arith, is, low, high)),
)

pub returns-clause-each : goal.returns-clause-each
returns-clause-each c second =
    let first = c.div_ceil-first.result in
    let last = c.args.to / 60 in
    let order : first ≤ last = c.if-last-first.false in
    let bounds = div_ceil_times c.args.from 60 (omega arith) in
    let low : c.args.from ≤ first * 60 = subst (λ n. c.args.from ≤ n * 60) (sym c.div_ceil-first.ensures) bounds.0 in
    let near : first * 60 < c.args.from + 60 = subst (λ n. n * 60 < c.args.from + 60) (sym c.div_ceil-first.ensures) bounds.1 in
    let past : last * 60 ≤ c.args.to = omega arith in
    let close : c.args.to < last * 60 + 60 = omega arith in
    minutes_between c.args.from c.args.to first last second low near past close order
