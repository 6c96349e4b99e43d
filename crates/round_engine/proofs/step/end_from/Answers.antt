use Rattle.std.proofs.Common.{◌≡◌, inl, inr, ◌+◌, length, sym, ◌∙◌, ap, subst, arith}
use Rattle.round_engine.specs.Attained.{IsEnd, ended}
use Rattle.round_engine.specs.Bags.{IsKeptByAny}
use Rattle.round_engine.specs.Chain.{pair_of}
use Rattle.round_engine.proofs.ShortWalks.{in_time}
use Rattle.round_engine.proofs.step.end_from.Goals as goal

pub returns-clause-kept : goal.returns-clause-kept
returns-clause-kept c = λ seconds h le.
    let of = c.in-Some.ensures in
    subst (IsKeptByAny c.offer.new.self) (of.3 ∙ ap (ended c.args.task.now.query.now (pair_of c.args.label.now)) (sym (of.4 seconds h))) c.in_ok-offer.ensures.kept

pub returns-clause-ends : goal.returns-clause-ends
returns-clause-ends c = λ t entry among. elim (c.in_ok-offer.ensures.offer.came t entry among) [
  | inl before ↦ c.requires.ends t entry before
  | inr new ↦ (
      let of = c.in-Some.ensures in
      let some = c.requires.some in
      let last = new.0 in
      let k : length c.args.ends.now ≡ t + 1 = omega arith in
      subst (λ n. IsEnd c.args.task.now n entry) k (subst (IsEnd c.args.task.now (length c.args.ends.now)) (sym new.1)
      (record { label = c.requires.label; seconds = of.0; egress = of.1; pair = of.3; in_time = of.2 })))
]

pub returns-clause-at_last : goal.returns-clause-at_last
returns-clause-at_last c = λ t entry before among. elim (c.in_ok-offer.ensures.offer.came t entry among) [
  | inl old ↦ old
  | inr new ↦ (let last = new.0 in absurd (omega arith))
]

pub end_of-requires-clause-label : goal.end_of-requires-clause-label
end_of-requires-clause-label c = in_time c.args.task.now c.requires.task (length c.args.ends.now) c.args.label.now c.requires.label
