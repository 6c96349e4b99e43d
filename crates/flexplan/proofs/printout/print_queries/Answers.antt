use Rattle.std.proofs.Common.{◌≡◌, [], Err, refl, rules, subst, sym}
use Rattle.flex_io.specs.declared.error.PutError.TheVariants.{NoMemory}
use Rattle.flexplan.specs.Answers.{IsQueryText}
use Rattle.flexplan.specs.Texts.{PrintsAll}
use Rattle.flexplan.proofs.Gains.{gains_nothing}
use Rattle.flexplan.proofs.printout.print_queries.Goals as goal

pub returns-in_err-index-clause-printed : goal.returns-in_err-index-clause-printed
returns-in_err-index-clause-printed g c =
    let input = c.args.input.now in
    let all : c.from_residual.result ≡ Err NoMemory = search rules in
    gains_nothing _ _ (subst (λ r. PrintsAll (IsQueryText c.args.printout input.feed input.times input.zone) input.queries r []) (sym all) (0, refl))
