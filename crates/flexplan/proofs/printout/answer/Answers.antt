use mir.Syntax.{w64}
use Rattle.std.proofs.Common.{rules, sym}
use Rattle.std.proofs.lemmas.Int.{to_z-of_z}
use Rattle.query_io.proofs.PrintedAnswers.{exact_printable}
use Rattle.flexplan.proofs.printout.answer.Goals as goal

pub exact_answers-requires-clause-of_query : goal.exact_answers-requires-clause-of_query
exact_answers-requires-clause-of_query c =
    c.in_ok-days.ensures.of_query c.args.query.now (sym (to_z-of_z w64 c.args.query.now.depart (search rules)))

pub write_answers-requires : goal.write_answers-requires
write_answers-requires c =
    exact_printable c.args.input.now.feed c.args.input.now.times c.in_ok-days.days c.args.query.now c.in_ok-answers.answers c.requires.input.feed c.requires.input.times c.in_ok-days.ensures.sound c.requires.query c.in_ok-answers.ensures
