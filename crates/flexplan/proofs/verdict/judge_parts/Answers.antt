use Rattle.std.proofs.Common.{◌≡◌, ◌+◌, Some, ap, arith, get_or, slice_get, subst, sym, ◌∙◌}
use Rattle.std.proofs.lemmas.Option.{slice_get-get_or, slice_get_within}
use Rattle.flexplan.specs.Judging.{IsPartJudged}
use Rattle.flexplan.proofs.Verdicts.{valid_more}
use Rattle.flexplan.proofs.verdict.judge_parts.Goals as goal

pub loop-i-preserved : goal.loop-i-preserved
loop-i-preserved c =
    let input = c.args.input.now in
    let parts = c.args.parts.now in
    let i = c.loop-i.i in
    let query = c.index-queries-i.result in
    let part = c.index-parts-i.result in
    let lt = c.loop-i-test.true in
    let count = c.requires.count in
    let of_query : slice_get input.queries i ≡ Some query =
    slice_get-get_or input.queries i query (omega (arith, lt, count)) ∙ sym (ap Some (c.index-queries-i.is ∙ ap (λ xs. get_or xs i query) c.as_slice-queries.ensures)) in
    let of_part : slice_get parts i ≡ Some part = slice_get-get_or parts i part (omega (arith, lt)) ∙ sym (ap Some c.index-parts-i.is) in
    valid_more input.feed input.times input.zone input.queries parts i query part c.loop-i.invariant of_query of_part
    (subst (IsPartJudged input.feed input.times input.zone query part (i + 1)) c.in_default.is c.in_ok-text.ensures)

pub returns : goal.returns
returns c =
    let end = c.loop-i-test.false in
    record {
      count = c.requires.count;
      each = λ k query part e f. (
          let within = slice_get_within c.args.parts.now k part f in
          c.loop-i.invariant k query part (omega (arith, end, within)) e f);
    }
