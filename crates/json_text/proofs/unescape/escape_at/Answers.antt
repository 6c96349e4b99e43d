use Rattle.std.proofs.Common.{arith, rules, sym, ◌∙◌, ap, ◌≡◌, ◌-◌, ◌+◌}
use Rattle.json_text.specs.StringText.{alone, is_high, paired}
use Rattle.json_text.proofs.Marks.{escape_passes, half_passes, letter_within, low_or_other_passes, low_small, pair_passes, unit_facts}
use Rattle.json_text.proofs.unescape.escape_at.Goals as goal

pub bounds-raw-at : goal.bounds-raw-at
bounds-raw-at c = omega (arith, (letter_within c.args.raw.now c.args.at c.requires.marks c.requires.within c.requires.backslash).0)

pub returns-then-letter-ne117-clause-passes : goal.returns-then-letter-ne117-clause-passes
returns-then-letter-ne117-clause-passes c =
    escape_passes c.args.raw.now c.args.at _ c.requires.within c.requires.backslash c.if-letter-ne117.true (search rules)

pub returns-then-letter-ne117-clause-end : goal.returns-then-letter-ne117-clause-end
returns-then-letter-ne117-clause-end c = (letter_within c.args.raw.now c.args.at c.requires.marks c.requires.within c.requires.backslash).0

pub returns-then-letter-ne117-clause-ascii : goal.returns-then-letter-ne117-clause-ascii
returns-then-letter-ne117-clause-ascii c =
    let e : c.args.at + 2 - 1 ≡ c.args.at + 1 = omega arith in
    rw e (letter_within c.args.raw.now c.args.at c.requires.marks c.requires.within c.requires.backslash).1

pub unit-first-requires : goal.unit-first-requires
unit-first-requires c = omega (arith, (unit_facts c.args.raw.now c.args.at c.requires.marks c.requires.within c.requires.backslash c.if-letter-ne117.false).0)

pub alone-requires : goal.alone-requires
alone-requires c =
    omega (arith, c.unit-first.ensures, (unit_facts c.args.raw.now c.args.at c.requires.marks c.requires.within c.requires.backslash c.if-letter-ne117.false).2)

pub low_at-requires-clause-within : goal.low_at-requires-clause-within
low_at-requires-clause-within c = (unit_facts c.args.raw.now c.args.at c.requires.marks c.requires.within c.requires.backslash c.if-letter-ne117.false).0

pub low_at-requires-clause-marks : goal.low_at-requires-clause-marks
low_at-requires-clause-marks c = (unit_facts c.args.raw.now c.args.at c.requires.marks c.requires.within c.requires.backslash c.if-letter-ne117.false).3

pub returns-in-Some-clause-passes : goal.returns-in-Some-clause-passes
returns-in-Some-clause-passes c =
    pair_passes c.args.raw.now c.args.at c.in-Some.low _ c.requires.within c.requires.backslash c.if-letter-ne117.false
    (ap is_high (sym c.unit-first.ensures) ∙ search rules) c.in-Some.ensures.some (c.paired.ensures ∙ ap (λ u. paired u c.in-Some.low) c.unit-first.ensures)

pub returns-in-Some-clause-ascii : goal.returns-in-Some-clause-ascii
returns-in-Some-clause-ascii c =
    let e : c.args.at + 12 - 1 ≡ c.args.at + 6 + 5 = omega arith in
    rw e (low_small c.args.raw.now c.args.at c.in-Some.low c.requires.marks c.requires.within c.requires.backslash c.if-letter-ne117.false c.in-Some.ensures.some)

pub returns-then-not-is_high-clause-passes : goal.returns-then-not-is_high-clause-passes
returns-then-not-is_high-clause-passes c =
    low_or_other_passes c.args.raw.now c.args.at _ c.requires.within c.requires.backslash c.if-letter-ne117.false (c.alone.ensures ∙ ap alone c.unit-first.ensures) (ap is_high (sym c.unit-first.ensures) ∙ search rules)

pub returns-then-not-is_high-clause-end : goal.returns-then-not-is_high-clause-end
returns-then-not-is_high-clause-end c = (unit_facts c.args.raw.now c.args.at c.requires.marks c.requires.within c.requires.backslash c.if-letter-ne117.false).0

pub returns-then-not-is_high-clause-ascii : goal.returns-then-not-is_high-clause-ascii
returns-then-not-is_high-clause-ascii c =
    let e : c.args.at + 6 - 1 ≡ c.args.at + 5 = omega arith in
    rw e (unit_facts c.args.raw.now c.args.at c.requires.marks c.requires.within c.requires.backslash c.if-letter-ne117.false).1

pub returns-in-None-clause-passes : goal.returns-in-None-clause-passes
returns-in-None-clause-passes c =
    half_passes c.args.raw.now c.args.at _ c.requires.within c.requires.backslash c.if-letter-ne117.false (c.alone-in-None.ensures ∙ ap alone c.unit-first.ensures) c.in-None.ensures.none

pub returns-in-None-clause-end : goal.returns-in-None-clause-end
returns-in-None-clause-end c = (unit_facts c.args.raw.now c.args.at c.requires.marks c.requires.within c.requires.backslash c.if-letter-ne117.false).0

pub returns-in-None-clause-ascii : goal.returns-in-None-clause-ascii
returns-in-None-clause-ascii c =
    let e : c.args.at + 6 - 1 ≡ c.args.at + 5 = omega arith in
    rw e (unit_facts c.args.raw.now c.args.at c.requires.marks c.requires.within c.requires.backslash c.if-letter-ne117.false).1
