use Rattle.std.proofs.Common.{◌≡◌, ◌+◌, ◌-◌, ap, arith, length, subst, ◌∙◌, map}
use Rattle.bound_cert.specs.Parts.{told_label}
use Rattle.label_bag.specs.Bag.{IsBag}
use Rattle.round_engine.specs.Attained.{number_of}
use Rattle.round_engine.specs.Bags.{bag_at, round_at}
use Rattle.journey_rebuild.proofs.RoundLabels.{labels_more, up_to}
use Rattle.journey_rebuild.proofs.rounds.round_of.Goals as goal

pub loop-number-preserved : goal.loop-number-preserved
loop-number-preserved c =
    let bags = round_at c.args.table.now.0 (c.args.round - 1) in
    let number = c.loop-number.number in
    let width : length bags ≡ c.args.stops + 1 = c.requires.width in
    let last : length bags - 1 ≡ c.args.stops = omega (arith, width) in
    let low = c.loop-number-test.true in
    let at : number_of (length bags - 1) c.place_at.result ≡ number = ap (λ n. number_of n c.place_at.result) last ∙ c.place_at.ensures in
    record {
      labels = labels_more bags number (map told_label c.loop-number.labels) (map told_label c.add_labels.new.into) c.labels.result.now (omega (arith, width, low))
          c.loop-number.invariant.labels c.in_ok-add_labels.ensures (c.labels.ensures.labels ∙ ap (bag_at bags) at);
      bags = up_to (λ i. IsBag (bag_at bags i)) number c.loop-number.invariant.bags (subst (λ i. IsBag (bag_at bags i)) at c.labels.ensures.apart);
    }
