use Rattle.std.proofs.Common.{◌≡◌, ap, map, subst, sym, ◌∙◌}
use Rattle.std.proofs.lemmas.Result.{IfOk-weaker}
use Rattle.flex_model.specs.Answer.{IsExactAnswer}
use Rattle.journey_rebuild.specs.Answers.{answer_of}
use Rattle.journey_rebuild.proofs.SearchAnswers.{exact_of}
use Rattle.journey_rebuild.proofs.answers.exact_answers.Goals as goal

pub returns : goal.returns
returns c =
    let exact = IsExactAnswer c.args.feed.now c.args.times.now c.args.days.now c.args.query.now in
    let found = exact_of c.args.feed c.args.times c.args.days c.args.query _ _ c.in_ok-table.ensures in
    IfOk-weaker c.answers_of.result (λ answers. answers ≡ map answer_of c.finals.result.now) exact
    (λ answers same. subst exact (sym (same ∙ ap (map answer_of) c.finals.ensures)) found) c.answers_of.ensures
