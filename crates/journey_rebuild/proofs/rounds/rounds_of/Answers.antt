use Rattle.std.proofs.Common.{◌≡◌, ◌+◌, ◌-◌, ◌<◌, ◌^◌, [], ◌∷◌, All, ap, arith, length, subst, sym, ◌∙◌}
use Rattle.std.proofs.lemmas.List.Elements.{All-append, All-cons, All-nil}
use Rattle.bound_cert.specs.declared.cert.CertRound.{CertRound}
use Rattle.round_engine.specs.Bags.{round_at}
use Rattle.round_engine.specs.Flat.{labels_in}
use Rattle.journey_rebuild.specs.Rounds.{AreBagsOf}
use Rattle.journey_rebuild.proofs.RoundLabels.{rounds_more, up_to}
use Rattle.journey_rebuild.proofs.rounds.rounds_of.Goals as goal

pub loop-number-preserved : goal.loop-number-preserved
loop-number-preserved c =
    let table = c.args.table.now.0 in
    let number = c.loop-number.number in
    let count = c.requires.count in
    let low = c.loop-number-test.true in
    let back : (number + 1) - 1 ≡ number = omega arith in
    let round = c.in_ok-round_of.field-0 in
    let told = c.in_ok-round_of.ensures in
    let IsCountable : CertRound → Type 0 = λ round. length round.labels < 2 ^ 64 in
    record {
      rounds = rounds_more table number c.loop-number.rounds c.push.new.self round (omega (arith, count, low)) c.loop-number.invariant.rounds
          (told.labels ∙ ap (λ r. labels_in (round_at table r)) back) c.in_ok-push.ensures.ok;
      bags = up_to (λ r. AreBagsOf (round_at table r)) number c.loop-number.invariant.bags (subst (λ r. AreBagsOf (round_at table r)) back told.bags);
      countable = subst (All IsCountable) (sym c.in_ok-push.ensures.ok)
          (All-append IsCountable c.loop-number.rounds (round ∷ []) c.loop-number.invariant.countable (All-cons IsCountable round [] told.countable (All-nil IsCountable)));
    }
