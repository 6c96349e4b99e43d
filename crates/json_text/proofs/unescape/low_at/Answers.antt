use Rattle.std.proofs.Common.{arith, rules}
use Rattle.json_text.proofs.Marks.{letter_within, unit_facts}
use Rattle.json_text.proofs.unescape.low_at.Goals as goal

pub bounds-raw-at-then-raw-at-eq92 : goal.bounds-raw-at-then-raw-at-eq92
bounds-raw-at-then-raw-at-eq92 c =
    omega (arith, (letter_within c.args.raw.now c.args.at c.requires.marks c.if-at-raw.true c.if-raw-at-eq92.true).0)

pub unit-low-requires : goal.unit-low-requires
unit-low-requires c =
    omega (arith, (unit_facts c.args.raw.now c.args.at c.requires.marks c.if-at-raw.true c.if-raw-at-eq92.true c.if-raw-at-eq117.true).0)

pub returns-then-is_low-clause-some : goal.returns-then-is_low-clause-some
returns-then-is_low-clause-some c = record {
  within = (unit_facts c.args.raw.now c.args.at c.requires.marks c.if-at-raw.true c.if-raw-at-eq92.true c.if-raw-at-eq117.true).0;
  backslash = c.if-raw-at-eq92.true;
  letter = c.if-raw-at-eq117.true;
  value = c.unit-low.ensures;
  low = search rules;
}
