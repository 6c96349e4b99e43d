-- Each entry that was looked at either covers the pair, or decides, or leaves those to its left.
use Rattle.std.proofs.Common.{◌≡◌, ◌+◌, ◌-◌, ◌<◌, ◌≤ℤ◌, true, false, length, refl, sym, subst, arith}
use Rattle.flex_model.specs.Triple.{CoversPair}
use Rattle.label_bag.proofs.Searches.{NoneCovers, none_covers, none_of_both, one_left, walk_decides}
use Rattle.label_bag.proofs.indices.is_covered.Goals as goal

not_true : false ≡ true → ⊥
not_true e = cc

pub returns-then-covers : goal.returns-then-covers
returns-then-covers g c =
    let entry = c.index-entries-left.result in
    let is = c.index-entries-left.is in
    let some = c.loop-left-test.true in
    let le = c.loop-left.invariant.within in
    let count = c.count_by_then-left.ensures.within in
    let lt : c.loop-left.left - 1 < length c.args.entries.now = omega arith in (
      λ e. (entry, (c.loop-left.left - 1, lt, sym is), subst (λ z. CoversPair z.0 c.args.pair.now) (sym is) (c.covers.ensures.0 c.if-covers.true)),
      λ h. refl,
    )

pub returns-then-kept-pair : goal.returns-then-kept-pair
returns-then-kept-pair g c =
    let entries = c.args.entries.now in
    let pair = c.args.pair.now in
    let left = c.loop-left.left - 1 in
    let count = c.count_by_then-left.result in
    let entry = c.index-entries-left.result in
    let is = c.index-entries-left.is in
    let some = c.loop-left-test.true in
    let le = c.loop-left.invariant.within in
    let all = c.count_by_then-left.ensures.within in
    let lt : left < length entries = omega arith in
    let few : left < count = omega arith in
    let next : c.loop-left.left ≡ left + 1 = omega arith in
    let never = subst (λ z. CoversPair z.0 pair → ⊥) (sym is) (λ covers. not_true (subst (λ b. b ≡ true) c.if-covers.false (c.covers.ensures.1 covers))) in
    let arrives = subst (λ z. z.0.arrival ≤ℤ pair.arrival) (sym is) (c.count_by_then-left.ensures.before left entry few) in
    let walks = subst (λ z. z.0.walk ≡ pair.walk) (sym is) c.if-kept-pair.true in
    let rest = subst (λ n. NoneCovers entries pair n count) next c.loop-left.invariant.none in
    let none = none_of_both entries pair left count (walk_decides entries pair left entry c.requires lt is arrives walks never) (one_left entries pair left count entry lt is never rest) in
    (λ e. absurd (not_true e), λ h. absurd (none_covers entries pair count c.count_by_then-left.ensures none h))

pub loop-left-preserved : goal.loop-left-preserved
loop-left-preserved g c =
    let entries = c.args.entries.now in
    let pair = c.args.pair.now in
    let left = c.loop-left.left - 1 in
    let count = c.count_by_then-left.result in
    let entry = c.index-entries-left.result in
    let is = c.index-entries-left.is in
    let some = c.loop-left-test.true in
    let le = c.loop-left.invariant.within in
    let all = c.count_by_then-left.ensures.within in
    let lt : left < length entries = omega arith in
    let next : c.loop-left.left ≡ left + 1 = omega arith in
    let never = subst (λ z. CoversPair z.0 pair → ⊥) (sym is) (λ covers. not_true (subst (λ b. b ≡ true) c.if-covers.false (c.covers.ensures.1 covers))) in
    let rest = subst (λ n. NoneCovers entries pair n count) next c.loop-left.invariant.none in
    record { within = omega arith; none = one_left entries pair left count entry lt is never rest }

pub returns : goal.returns
returns g c =
    let entries = c.args.entries.now in
    let pair = c.args.pair.now in
    let count = c.count_by_then-left.result in
    let zero : c.loop-left.left ≡ 0 = let done = c.loop-left-test.false in omega arith in
    let none = subst (λ n. NoneCovers entries pair n count) zero c.loop-left.invariant.none in
    (λ e. absurd (not_true e), λ h. absurd (none_covers entries pair count c.count_by_then-left.ensures none h))
