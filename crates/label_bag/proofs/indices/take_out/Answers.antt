-- Each entry that was looked at is out, or it isn't covered.
use Rattle.std.proofs.Common.{◌≡◌, ◌+◌, ◌-◌, ◌<◌, true, false, length, subst, le_refl, arith}
use Rattle.label_bag.specs.Bag.{IsWithout}
use Rattle.label_bag.proofs.Offers.{kept_left, none_out, out_left}
use Rattle.label_bag.proofs.indices.take_out.Goals as goal

not_true : false ≡ true → ⊥
not_true e = cc

pub loop-left-init : goal.loop-left-init
loop-left-init g c = record {
  from = c.requires.from;
  to = le_refl c.args.to;
  room = c.requires.to;
  out = none_out c.args.entries.now.items c.args.pair.now c.args.to c.requires.beyond;
}

pub loop-left-preserved-then-covers : goal.loop-left-preserved-then-covers
loop-left-preserved-then-covers g c =
    let entries = c.args.entries.now.items in
    let pair = c.args.pair.now in
    let left = c.loop-left.left - 1 in
    let some = c.loop-left-test.true in
    let to = c.loop-left.invariant.to in
    let all = c.requires.to in
    let room = c.loop-left.invariant.room in
    let within : left < length entries = omega arith in
    let next : c.loop-left.left ≡ left + 1 = omega arith in
    let without = subst (λ n. IsWithout entries pair n c.loop-left.entries.items) next c.loop-left.invariant.out in
    record {
      from = omega arith;
      to = omega arith;
      room = omega (arith, c.remove.ensures.len, c.remove.new.self.ok.0, c.loop-left.entries.ok.0);
      out = out_left entries pair left c.loop-left.entries.items c.index.result.now within without c.remove.new.self.items c.index.ensures (c.covers.ensures.0 c.if-covers.true) c.remove.ensures.by_index.2;
    }

pub loop-left-preserved : goal.loop-left-preserved
loop-left-preserved g c =
    let entries = c.args.entries.now.items in
    let pair = c.args.pair.now in
    let left = c.loop-left.left - 1 in
    let some = c.loop-left-test.true in
    let to = c.loop-left.invariant.to in
    let all = c.requires.to in
    let room = c.loop-left.invariant.room in
    let within : left < length entries = omega arith in
    let next : c.loop-left.left ≡ left + 1 = omega arith in
    let without = subst (λ n. IsWithout entries pair n c.loop-left.entries.items) next c.loop-left.invariant.out in
    record {
      from = omega arith;
      to = omega arith;
      room = omega arith;
      out = kept_left entries pair left c.loop-left.entries.items c.index.result.now within without c.index.ensures
          (λ covers. not_true (subst (λ b. b ≡ true) c.if-covers.false (c.covers.ensures.1 covers)));
    }

pub returns : goal.returns
returns g c =
    let from = c.loop-left.invariant.from in
    let done = c.loop-left-test.false in
    let same : c.loop-left.left ≡ c.args.from = omega arith in
    subst (λ n. IsWithout c.args.entries.now.items c.args.pair.now n c.loop-left.entries.items) same c.loop-left.invariant.out
