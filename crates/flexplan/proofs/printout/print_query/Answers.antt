use Rattle.std.proofs.Common.{sym, subst, ◌∙◌}
use Rattle.flexplan.specs.Answers.{IsQueryText}
use Rattle.flexplan.proofs.Texts.{put_prints}
use Rattle.flexplan.proofs.printout.print_query.Goals as goal

pub returns-clause-printed : goal.returns-clause-printed
returns-clause-printed g c =
    let right = IsQueryText c.args.printout c.args.input.now.feed c.args.input.now.times c.args.input.now.zone in
    let is = subst (right c.args.query.now) (sym (c.as_bytes.ensures.value ∙ c.as_str.ensures.bytes)) c.in_ok-text.ensures in
    put_prints right c.args.query.now c.as_bytes.result.now (g.O.Sink.contents c.args.out.now) (g.O.Sink.contents c.put.new.self) c.put.result is c.put.ensures.whole c.put.ensures.part c.put.ensures.nothing
