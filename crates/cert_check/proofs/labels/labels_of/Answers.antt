use Rattle.std.proofs.Common.{◌+◌, ◌++◌, map, sym, ◌∙◌, ap}
use Rattle.bound_cert.specs.declared.cert.CertRound.{CertRound}
use Rattle.cert_check.specs.Labels.{in_round}
use Rattle.cert_check.proofs.LabelTables.{labels_next, labels_none}
use Rattle.cert_check.proofs.labels.labels_of.Goals as goal

pub loop-i-init : goal.loop-i-init
loop-i-init c = c.new-labels.ensures.items ∙ labels_none

pub loop-i-preserved : goal.loop-i-preserved
loop-i-preserved c =
    labels_next c.args.rounds.now c.loop-i.i c.index-rounds-i.result c.loop-i-test.true c.index-rounds-i.is
    c.loop-i.labels.items c.add_round.new.into.items c.loop-i.invariant
    (c.in_ok-add_round.ensures
    ∙ ap (λ xs. c.loop-i.labels.items ++ map (in_round (c.loop-i.i + 1)) xs) (c.as_slice.ensures ∙ ap (λ (r : CertRound). r.labels) (sym c.index-rounds-i.is)))
