use Rattle.std.proofs.Common.{◌≡◌, Err, Ok, rules}
use Rattle.flexplan.proofs.Gains.{gains_as, gains_more}
use Rattle.flexplan.proofs.Printed.{printed_after, printed_not}
use Rattle.flexplan.proofs.printout.print_input.Goals as goal

pub returns-in_err-print_front-clause-printed : goal.returns-in_err-print_front-clause-printed
returns-in_err-print_front-clause-printed g c =
    let e = c.in_err-print_front.field-0.0 in
    let one : c.print_front.result ≡ Err e = search rules in
    let all : c.from_residual.result ≡ Err e = search rules in
    let input = c.args.input.now in
    let printed = rw c.as_slice.ensures at c.print_front.ensures.printed in
    gains_as _ _ _ _ printed (λ bytes front. printed_not input.feed input.times input.zone c.args.printout input.queries c.print_front.result c.from_residual.result e bytes one all front)

pub returns-clause-printed : goal.returns-clause-printed
returns-clause-printed g c =
    let one : c.print_front.result ≡ Ok tt = search rules in
    let input = c.args.input.now in
    let printed = rw c.as_slice.ensures at c.print_front.ensures.printed in
    let few = rw c.as_slice.ensures at c.print_front.ensures.few in
    gains_more _ _ _ _ _ _ printed c.print_queries.ensures.printed
    (λ first rest front texts. printed_after input.feed input.times input.zone c.args.printout input.queries c.print_front.result c.print_queries.result tt first rest few one front texts)
