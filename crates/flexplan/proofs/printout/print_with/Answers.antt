use Rattle.std.proofs.Common.{◌≡◌, Ok, Err, ap, get_or, length, subst, sym, ◌∙◌, arith, rules}
use Rattle.flexplan.specs.Answers.{IsQueryText}
use Rattle.flexplan.specs.Texts.{Prints}
use Rattle.flexplan.proofs.Gains.{gains_more}
use Rattle.flexplan.proofs.Texts.{stops_as, goes_on}
use Rattle.flexplan.proofs.printout.print_with.Goals as goal

pub returns-in_err-print_query-clause-printed : goal.returns-in_err-print_query-clause-printed
returns-in_err-print_query-clause-printed g c =
    let e = c.in_err-print_query.field-0.0 in
    let one : c.print_query.result ≡ Err e = search rules in
    let all : c.from_residual.result ≡ Err e = search rules in
    let input = c.args.input.now in
    let items = c.as_slice-query-items.ensures in
    let size = ap length items in
    let same = c.query-item.is ∙ ap (λ l. get_or l c.loop-query.query-index c.query-item.result) items in
    gains_more _ _ _ _ _ _ c.loop-query.invariant.printed c.print_query.ensures.printed
    (λ first rest so_far next. stops_as (IsQueryText c.args.printout input.feed input.times input.zone) input.queries c.loop-query.query-index c.query-item.result e _ _ first rest (omega (arith, size)) one all so_far
    (subst (λ q. Prints (IsQueryText c.args.printout input.feed input.times input.zone) q c.print_query.result rest) same next))

pub loop-query-preserved : goal.loop-query-preserved
loop-query-preserved g c = record {
  printed =
      let one : c.print_query.result ≡ Ok tt = search rules in
      let input = c.args.input.now in
      let items = c.as_slice-query-items.ensures in
      let size = ap length items in
      let same = c.query-item.is ∙ ap (λ l. get_or l c.loop-query.query-index c.query-item.result) items in
      gains_more _ _ _ _ _ _ c.loop-query.invariant.printed c.print_query.ensures.printed
      (λ first rest so_far next. goes_on (IsQueryText c.args.printout input.feed input.times input.zone) input.queries c.loop-query.query-index c.query-item.result tt _ first rest (omega (arith, size)) one so_far
      (subst (λ q. Prints (IsQueryText c.args.printout input.feed input.times input.zone) q c.print_query.result rest) same next));
  counted = search rules;
  steady =
      let one : c.print_query.result ≡ Ok tt = search rules in
      c.print_query.ensures.answered (λ failed. let both = sym one ∙ failed in cc) ∙ c.loop-query.invariant.steady;
}

pub returns-in_err-print_query-clause-answered : goal.returns-in_err-print_query-clause-answered
returns-in_err-print_query-clause-answered g c = λ unfailed.
    let e = c.in_err-print_query.field-0.0 in
    let one : c.print_query.result ≡ Err e = search rules in
    let all : c.from_residual.result ≡ Err e = search rules in
    c.print_query.ensures.answered (λ failed. unfailed (all ∙ sym one ∙ failed)) ∙ c.loop-query.invariant.steady

pub returns-clause-answered : goal.returns-clause-answered
returns-clause-answered g c = λ _. c.loop-query.invariant.steady
