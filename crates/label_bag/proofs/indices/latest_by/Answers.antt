-- Each entry that was looked at is no later than the latest so far.
use Rattle.std.proofs.Common.{◌≡◌, ◌⊎◌, ◌+◌, ◌-◌, ◌<◌, Some, length, sym, subst, le_refl, arith}
use Rattle.flex_model.specs.Deadline.{IsNoLater}
use Rattle.label_bag.proofs.Latest.{IsLatestOf, best_by, none_yet, one_more, walk_ends}
use Rattle.label_bag.proofs.indices.latest_by.Given.{Over}
use Rattle.label_bag.proofs.indices.latest_by.Goals as goal
use Rattle.label_bag.proofs.indices.latest_by.Goals.{After-later}

pub loop-left-init : goal.loop-left-init
loop-left-init g c = record { within = le_refl c.count_by_then-left.result; latest = none_yet c.args.entries.now c.count_by_then-left.result }

-- the latest so far, with the entry that is looked at
so_far : (g : Over) (c : After-later g) → IsLatestOf c.args.entries.now (c.loop-left.left - 1) c.count_by_then-left.result (Some c.later.result)
so_far g c =
    let entries = c.args.entries.now in
    let left = c.loop-left.left - 1 in
    let count = c.count_by_then-left.result in
    let entry = c.index-entries-left.result in
    let is = c.index-entries-left.is in
    let some = c.loop-left-test.true in
    let le = c.loop-left.invariant.within in
    let all = c.count_by_then-left.ensures.within in
    let lt : left < length entries = omega arith in
    let next : c.loop-left.left ≡ left + 1 = omega arith in
    one_more entries left count entry c.loop-left.best c.later.result (omega arith) lt is
    (subst (λ n. IsLatestOf entries n count c.loop-left.best) next c.loop-left.invariant.latest)
    (subst (λ z. (c.later.result ≡ z.0.deadline) ⊎ (c.loop-left.best ≡ Some c.later.result)) (sym is) c.later.ensures.one)
    (subst (λ z. IsNoLater z.0.deadline c.later.result) (sym is) c.later.ensures.no_less)
    c.later.ensures.best

pub returns-then-kept-longest : goal.returns-then-kept-longest
returns-then-kept-longest g c =
    let entries = c.args.entries.now in
    let left = c.loop-left.left - 1 in
    let count = c.count_by_then-left.result in
    let entry = c.index-entries-left.result in
    let is = c.index-entries-left.is in
    let some = c.loop-left-test.true in
    let le = c.loop-left.invariant.within in
    let all = c.count_by_then-left.ensures.within in
    let few : left < count = omega arith in
    best_by entries c.args.arrival.now count (Some c.later.result) c.count_by_then-left.ensures
    (walk_ends entries left count entry c.args.longest c.later.result c.requires.bag c.requires.within all few is
    (subst (λ z. z.0.walk ≡ c.args.longest) (sym is) c.if-kept-longest.true) (so_far g (goal.at.returns-then-kept-longest g c).After-later))

pub loop-left-preserved : goal.loop-left-preserved
loop-left-preserved g c =
    let some = c.loop-left-test.true in
    let le = c.loop-left.invariant.within in
    record { within = omega arith; latest = so_far g (goal.at.loop-left-preserved g c).After-later }

pub returns : goal.returns
returns g c =
    let entries = c.args.entries.now in
    let count = c.count_by_then-left.result in
    let zero : c.loop-left.left ≡ 0 = let done = c.loop-left-test.false in omega arith in
    best_by entries c.args.arrival.now count c.loop-left.best c.count_by_then-left.ensures
    (subst (λ n. IsLatestOf entries n count c.loop-left.best) zero c.loop-left.invariant.latest)
