use Rattle.std.proofs.Common.{refl, sym, ◌∙◌}
use Rattle.feed_rules.proofs.KeptTables.{empty, nonempty}
use Rattle.feed_load.proofs.accepted.judge.Goals as goal

pub returns-then-not-is_empty : goal.returns-then-not-is_empty
returns-then-not-is_empty c = λ scan folder reads scans. (
  nonempty c.in_ok-found.found c.in_ok-found.found c.is_empty.result c.is_empty.ensures refl c.if-not-is_empty.true,
  c.in_ok-found.ensures scan folder reads scans,
)

pub returns-in-Some : goal.returns-in-Some
returns-in-Some c = λ scan folder reads scans.
    let none = sym (c.in_ok-found.ensures scan folder reads scans)
    ∙ empty c.in_ok-found.found c.in_ok-found.found c.is_empty.result c.is_empty.ensures refl c.if-not-is_empty.false in
    (none, c.in-Some.ensures scan folder reads scans none)

pub returns : goal.returns
returns c = λ scan folder reads scans.
    let none = sym (c.in_ok-found.ensures scan folder reads scans)
    ∙ empty c.in_ok-found.found c.in_ok-found.found c.is_empty.result c.is_empty.ensures refl c.if-not-is_empty.false in
    absurd (c.in-None.ensures scan folder reads scans none)
