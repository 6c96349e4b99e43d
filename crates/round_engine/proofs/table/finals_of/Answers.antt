use Rattle.std.proofs.Common.{rules, ◌<◌, inl, inr, length, sym, subst, arith}
use Rattle.std.proofs.lemmas.Bool.{cases_order}
use Rattle.label_bag.specs.Bag.{IsBag}
use Rattle.round_engine.specs.Bags.{bag_at}
use Rattle.round_engine.proofs.FinalLists.{finals_more}
use Rattle.round_engine.proofs.table.finals_of.Goals as goal

pub loop-transfers-preserved : goal.loop-transfers-preserved
loop-transfers-preserved c =
    let e = c.count-transfers-end.ensures.count in
    let lt : c.loop-transfers.transfers < length c.args.ends.now = search rules in record {
      finals = finals_more c.args.ends.now c.loop-transfers.transfers c.loop-transfers.into.items c.add_finals.new.into.items lt c.loop-transfers.invariant.finals c.in_ok-add_finals.ensures.finals;
      bags = λ t less. elim (cases_order t c.loop-transfers.transfers) [
        | inl same ↦ subst (λ n. IsBag (bag_at c.args.ends.now n)) (sym same) c.add_finals.ensures.bag
        | inr (inl before) ↦ c.loop-transfers.invariant.bags t before
        | inr (inr after) ↦ absurd (omega arith)
      ];
    }

pub returns-clause-bags : goal.returns-clause-bags
returns-clause-bags c = λ t lt. c.loop-transfers.invariant.bags t (let e = c.count-transfers-end.ensures.count in omega arith)
